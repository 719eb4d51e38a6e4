use Rattle.std.proofs.Common.{◌≡◌, ◌<◌, List, None, length, arith, rules, ap, sym, ◌∙◌, subst}
use Rattle.std.specs.Prelude.{slice_index_or, IsSome}
use Rattle.std.specs.declared.option.Option.{Option}
use Rattle.std.proofs.lemmas.List.{with_items_is}
use Rattle.cull_base.specs.Screen.{tile_count_of}
use Rattle.tile_cells.specs.Cells.{Writing}
use Rattle.bin_queues.specs.QueueParts.{BatchedFrame, IsBatched}
use Rattle.tile_queues.specs.Owners.{IsBack, IsHandedBack}
use Rattle.tile_queues.proofs.Returning.{all_back, match_at, match_some}
use Rattle.tile_queues.proofs.close_queues.hand_back.Goals as goal

pub put_tasks-requires : goal.put_tasks-requires
put_tasks-requires g c = (
  ap length c.as_mut_slice.ensures.value ∙ c.into_room-slots.ensures.slots ∙ ap (λ (f : BatchedFrame). tile_count_of f.list.size) c.requires.0,
  record { batched = subst IsBatched c.requires.0 c.into_room-slots.ensures.batched; frame_is = c.requires.1.frame_is },
)

pub empty_slots-requires-clause-full : goal.empty_slots-requires-clause-full
empty_slots-requires-clause-full g c t lt =
    let tasks = c.args.tasks.items in
    let slots = c.into_room-slots.result.0 in
    let new = c.put_tasks.new.slots in
    let kept : length new ≡ length slots.items = c.put_tasks.ensures.whole ∙ ap length c.as_mut_slice.ensures.value in
    let same : length new ≡ slots.len = search rules in
    let at = c.as_mut_slice-2.ensures.value ∙ with_items_is slots new same in
    let size = ap (λ (f : BatchedFrame). tile_count_of f.list.size) c.requires.0 in
    let below : t < tile_count_of g.frame.list.size = (let n = ap length at in omega (arith, lt, n, kept, c.into_room-slots.ensures.slots, size)) in
    let there = all_back c.args._queues.now g.frame tasks c.as_mut_slice.result.now new (subst IsBatched c.requires.0 c.into_room-slots.ensures.batched) c.requires.1 c.put_tasks.ensures.back t None below in
    subst (λ (l : List (Option Writing)). IsSome (slice_index_or l t None)) (sym at) (match_some (slice_index_or new t None) (IsHandedBack g.frame tasks t) there)

pub returns : goal.returns
returns g c =
    let slots = c.into_room-slots.result.0 in
    let new = c.put_tasks.new.slots in
    let kept : length new ≡ length slots.items = c.put_tasks.ensures.whole ∙ ap length c.as_mut_slice.ensures.value in
    let same : length new ≡ slots.len = search rules in
    let at = c.as_mut_slice-2.ensures.value ∙ with_items_is slots new same in
    let all : length c.as_mut_slice-2.result.now ≡ tile_count_of g.frame.list.size = ap length at ∙ kept ∙ c.into_room-slots.ensures.slots ∙ ap (λ (f : BatchedFrame). tile_count_of f.list.size) c.requires.0 in
    record {
      whole = c.empty_slots.ensures.whole ∙ all;
      each = λ t d lt.
          let there = all_back c.args._queues.now g.frame c.args.tasks.items c.as_mut_slice.result.now new (subst IsBatched c.requires.0 c.into_room-slots.ensures.batched) c.requires.1 c.put_tasks.ensures.back t None lt in
          match_at (slice_index_or c.as_mut_slice-2.result.now t None) (IsHandedBack g.frame c.args.tasks.items t) (slice_index_or c.empty_slots.result.items t d)
          (subst (λ (l : List (Option Writing)). IsBack g.frame c.args.tasks.items t (slice_index_or l t None)) (sym at) there)
          (c.empty_slots.ensures.each t d (omega (arith, lt, all)));
    }
