use Rattle.std.proofs.Common.{◌≡◌, ◌<◌, List, None, length, arith, rules, ap, sym, ◌∙◌, subst}
use Rattle.std.specs.Prelude.{slice_index_or, IsSome}
use Rattle.std.specs.declared.option.Option.{Option}
use Rattle.std.proofs.lemmas.List.{with_items_is}
use Rattle.cull_base.specs.Screen.{tile_count_of}
use Rattle.tile_cells.specs.Cells.{Writing}
use Rattle.tile_cells.specs.Standing.{StandsAt}
use Rattle.bin_queues.specs.QueueParts.{BatchedFrame, IsBatched}
use Rattle.tile_queues.specs.Owners.{AreSlotsAt}
use Rattle.tile_queues.proofs.Returning.{match_at, match_some}
use Rattle.tile_queues.proofs.close_queues.hand_back_all.Goals as goal

pub put_shares-requires : goal.put_shares-requires
put_shares-requires g c = (
  subst IsBatched c.requires.0 c.into_room-slots.ensures.batched,
  (ap length c.as_mut_slice.ensures.value ∙ c.into_room-slots.ensures.slots ∙ ap (λ (f : BatchedFrame). tile_count_of f.list.size) c.requires.0, c.requires.1.1),
)

pub empty_slots-requires-clause-full : goal.empty_slots-requires-clause-full
empty_slots-requires-clause-full g c t lt =
    let slots = c.into_room-slots.result.0 in
    let new = c.put_shares.new.slots in
    let kept : length new ≡ length slots.items = c.put_shares.ensures.whole ∙ ap length c.as_mut_slice.ensures.value in
    let same : length new ≡ slots.len = search rules in
    let at = c.as_mut_slice-2.ensures.value ∙ with_items_is slots new same in
    let size = ap (λ (f : BatchedFrame). tile_count_of f.list.size) c.requires.0 in
    let below : t < tile_count_of g.frame.list.size = (let n = ap length at in omega (arith, lt, n, kept, c.into_room-slots.ensures.slots, size)) in
    subst (λ (l : List (Option Writing)). IsSome (slice_index_or l t None)) (sym at) (match_some (slice_index_or new t None) (λ w. StandsAt g.frame.cells g.frame.list (length g.frame.list.members) t w) (c.put_shares.ensures.back t None below))

pub returns : goal.returns
returns g c =
    let slots = c.into_room-slots.result.0 in
    let new = c.put_shares.new.slots in
    let kept : length new ≡ length slots.items = c.put_shares.ensures.whole ∙ ap length c.as_mut_slice.ensures.value in
    let same : length new ≡ slots.len = search rules in
    let at = c.as_mut_slice-2.ensures.value ∙ with_items_is slots new same in
    let all : length c.as_mut_slice-2.result.now ≡ tile_count_of g.frame.list.size = ap length at ∙ kept ∙ c.into_room-slots.ensures.slots ∙ ap (λ (f : BatchedFrame). tile_count_of f.list.size) c.requires.0 in
    let back = subst (AreSlotsAt g.frame (length g.frame.list.members)) (sym at) c.put_shares.ensures.back in
    record {
      whole = c.empty_slots.ensures.whole ∙ all ∙ sym c.requires.1.0;
      each = λ t d lt.
          let below : t < tile_count_of g.frame.list.size = (let cells = c.requires.1.0 in omega (arith, lt, cells)) in
          match_at (slice_index_or c.as_mut_slice-2.result.now t None) (λ w. StandsAt g.frame.cells g.frame.list (length g.frame.list.members) t w) (slice_index_or c.empty_slots.result.items t d)
          (back t None below)
          (c.empty_slots.ensures.each t d (omega (arith, below, all)));
    }
