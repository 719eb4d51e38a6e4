-- New seats that get their tasks and passes.
use Rattle.std.proofs.Common.{◌≡◌, ℕ, ◌<◌, List, length, ap, ◌∙◌, arith}
use Rattle.std.specs.Global.{Global}
use Rattle.atomic_blocks.specs.Lent.{RowsId}
use Rattle.crossbeam_deque.specs.Handles.{worker_view}
use Rattle.steal_pool.specs.declared.seat.Seat.{Seat}
use Rattle.steal_pool.specs.DequeRule.{weigh}
use Rattle.steal_pool.specs.Finish.{AreAt, pushed_weigh}
use Rattle.steal_pool.specs.Making.{AreSeatsOn, HaveSameDeques}
use Rattle.steal_pool.proofs.Weights.{weigh_each}

pub at_same : {S : Type 0} (f : S → RowsId × Global) (ds : List S) (was ss : List Seat) → length ss ≡ length was → HaveSameDeques was ss → AreAt f ds was → AreAt f ds ss
at_same f ds was ss many same at i t s lt =
    let here : i < length was = omega arith in
    same i s lt ∙ at i t s here

pub pushed_on : (k : ℕ → ℕ) (was ss : List Seat) → AreSeatsOn was ss → pushed_weigh k ss ≡ pushed_weigh k was
pushed_on k was ss on = weigh_each (λ (s : Seat). weigh k (worker_view s.owner).pushed) was ss on.many (λ i s lt. ap (weigh k) (on.each i s lt).pushed)
