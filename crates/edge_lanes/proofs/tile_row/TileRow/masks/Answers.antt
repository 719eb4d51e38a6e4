use Rattle.std.proofs.Common.{◌∙◌, ap, sym}
use Rattle.std.specs.Simd.Lanes.{mask_l}
use Rattle.cull_base.specs.State.{samples_of}
use Rattle.edge_lanes.proofs.Rows.{samples_of-mask_l_spanned}
use Rattle.edge_lanes.proofs.TileRows.{inside_in-crossed, inside_in-plain}
use Rattle.edge_lanes.proofs.tile_row.TileRow.masks.Goals as goal

pub returns-in-Crossed-clause-value : goal.returns-in-Crossed-clause-value
returns-in-Crossed-clause-value c j l =
    c.masks.ensures j l ∙ ap mask_l (sym (inside_in-crossed c.args.self.now c.in-Crossed.field-0 c.in-Crossed.is c.args.column j c.requires l))

pub returns-in-Crossed-clause-samples : goal.returns-in-Crossed-clause-samples
returns-in-Crossed-clause-samples c j l =
    ap samples_of (c.masks.ensures j l) ∙ samples_of-mask_l_spanned c.args.self.now.spans c.args.column j
    ∙ sym (inside_in-crossed c.args.self.now c.in-Crossed.field-0 c.in-Crossed.is c.args.column j c.requires l)

pub returns-in-Plain-clause-value : goal.returns-in-Plain-clause-value
returns-in-Plain-clause-value c j l = c.tile_masks.ensures.value j l ∙ ap mask_l (sym (inside_in-plain c.args.self.now c.in-Plain.edges c.in-Plain.is c.args.column j))

pub returns-in-Plain-clause-samples : goal.returns-in-Plain-clause-samples
returns-in-Plain-clause-samples c j l = c.tile_masks.ensures.samples j l ∙ sym (inside_in-plain c.args.self.now c.in-Plain.edges c.in-Plain.is c.args.column j)
