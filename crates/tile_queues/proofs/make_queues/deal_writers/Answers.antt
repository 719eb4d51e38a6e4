use Rattle.std.proofs.Common.{List, Some, length, ap, sym, ◌∙◌, subst}
use Rattle.std.specs.declared.option.Option.{Option}
use Rattle.std.proofs.lemmas.List.{length-map}
use Rattle.tile_cells.specs.Cells.{Writing}
use Rattle.bin_queues.specs.Frames.{over}
use Rattle.tile_queues.specs.Owners.{AreLeft}
use Rattle.tile_queues.proofs.Making.{first_left}
use Rattle.tile_queues.proofs.make_queues.deal_writers.Goals as goal

pub deal-requires : goal.deal-requires
deal-requires g c =
    let frame = over c.args.frame.now g.cells in
    let slots = c.as_mut_slice.ensures.value ∙ c.in_ok-slots.ensures in
    let whole = ap length slots ∙ length-map c.args.writers.items (λ (w : Writing). Some w) ∙ c.requires.1.0.whole in
    let left = subst (λ (l : List (Option Writing)). AreLeft frame 0 0 l) (sym slots) (first_left frame c.args.writers.items c.requires.0 c.requires.1.0) in
    (c.requires.1.1.0, (c.requires.1.1.1, (whole, left)))
