use Rattle.std.proofs.Common.{◌≡◌, ◌+◌, vec_len, vec_capacity}
use Rattle.std.specs.List.{All}
use Rattle.std.specs.Vec.Iter.{into_iter_items, into_iter_len}
use Rattle.frame_reports.specs.Windows.{HasPlaces, HavePlaces}
use Rattle.frame_reports.proofs.frame_pool.take_apart.Given as goal

abbrev pub invariant-loop-maker : goal.invariant-loop-maker
invariant-loop-maker g l =
    (goal.iterator-loop-maker g).can_next l.maker-iterator ×
    (goal.iterator-loop-maker g).is_finite l.maker-iterator ×
    (vec_len l.hands + into_iter_len l.maker-iterator ≡ vec_len l.fn.makers) ×
    (vec_len l.rooms + into_iter_len l.maker-iterator ≡ vec_len l.fn.makers) ×
    (vec_capacity l.hands ≡ vec_capacity l.fn.hands) ×
    (vec_capacity l.rooms ≡ vec_capacity l.fn.rooms) ×
    All (λ m. HasPlaces l.scene m.room) (into_iter_items l.maker-iterator) ×
    HavePlaces l.scene l.rooms.items
