use Rattle.std.proofs.Common.{◌∙◌, ap, sym, FitsSigned, w64, rules}
use Rattle.std.proofs.lemmas.Int.{to_z-of_z}
use Rattle.cull_base.specs.State.{samples_of}
use Rattle.edge_lanes.specs.Inside.{lines_of_kind}
use Rattle.edge_lanes.specs.Lines.{mask_of_all}
use Rattle.edge_lanes.specs.declared.edges.Kind.{Kind}
use Rattle.edge_lanes.proofs.Tiles.{are_held, mask_of_all-inside, of_narrow, samples_of-mask_l_inside_at}
use Rattle.edge_lanes.proofs.tile_edges.TileEdges.mask.Goals as goal

pub mask-requires : goal.mask-requires
mask-requires c = let h = are_held c.args.self.now c.in-Narrow.edges c.in-Narrow.is in record { first = h.first_bounded; second = h.second_bounded; third = h.third_bounded; j = c.requires }

pub returns-in-Narrow-clause-value : goal.returns-in-Narrow-clause-value
returns-in-Narrow-clause-value c =
    of_narrow c.args.self.now c.in-Narrow.edges c.in-Narrow.is (λ e p q r. mask_of_all e p q r c.args.j) c.mask.result c.mask.ensures ∙ mask_of_all-inside c.args.self.now c.args.j c.requires

pub returns-in-Narrow-clause-samples : goal.returns-in-Narrow-clause-samples
returns-in-Narrow-clause-samples c = ap samples_of (returns-in-Narrow-clause-value c) ∙ samples_of-mask_l_inside_at c.args.self.now c.args.j

pub returns-in-Wide-clause-value : goal.returns-in-Wide-clause-value
returns-in-Wide-clause-value c =
    let t = c.args.self.now in
    let fs : FitsSigned w64 t.first = search rules in let ft : FitsSigned w64 t.second = search rules in let fu : FitsSigned w64 t.third = search rules in
    simp to_z-of_z at c.mask-in-Wide.ensures ∙ ap (λ (k : Kind). mask_of_all (lines_of_kind k) t.first t.second t.third c.args.j) (sym c.in-Wide.is) ∙ mask_of_all-inside t c.args.j c.requires

pub returns-in-Wide-clause-samples : goal.returns-in-Wide-clause-samples
returns-in-Wide-clause-samples c = ap samples_of (returns-in-Wide-clause-value c) ∙ samples_of-mask_l_inside_at c.args.self.now c.args.j
