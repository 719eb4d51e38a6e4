use Rattle.std.proofs.Common.{◌∙◌, ap, sym, FitsSigned, w64, rules}
use Rattle.std.proofs.lemmas.Int.{to_z-of_z}
use Rattle.edge_lanes.specs.Inside.{lines_of_kind}
use Rattle.edge_lanes.specs.Lines.{candidates_of_all}
use Rattle.edge_lanes.specs.declared.edges.Kind.{Kind}
use Rattle.edge_lanes.proofs.Tiles.{are_held, candidates_of_all-clear, of_narrow}
use Rattle.edge_lanes.proofs.tile_edges.TileEdges.candidates.Goals as goal

pub candidates-requires : goal.candidates-requires
candidates-requires c = let h = are_held c.args.self.now c.in-Narrow.edges c.in-Narrow.is in record { first = h.first_bounded; second = h.second_bounded; third = h.third_bounded }

pub returns-in-Narrow-clause-clear : goal.returns-in-Narrow-clause-clear
returns-in-Narrow-clause-clear c = candidates_of_all-clear c.args.self.now c.candidates.result (of_narrow c.args.self.now c.in-Narrow.edges c.in-Narrow.is candidates_of_all c.candidates.result c.candidates.ensures.value)

pub returns-in-Wide-clause-clear : goal.returns-in-Wide-clause-clear
returns-in-Wide-clause-clear c =
    let t = c.args.self.now in
    let fs : FitsSigned w64 t.first = search rules in let ft : FitsSigned w64 t.second = search rules in let fu : FitsSigned w64 t.third = search rules in
    candidates_of_all-clear t c.candidates-in-Wide.result (simp to_z-of_z at c.candidates-in-Wide.ensures.value ∙ ap (λ (k : Kind). candidates_of_all (lines_of_kind k) t.first t.second t.third) (sym c.in-Wide.is))
