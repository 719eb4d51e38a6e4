use Rattle.std.proofs.Common.{◌≡◌, refl, subst, Result, Ok, Err}
use Rattle.std.specs.Prelude.{IfOk}
use Rattle.cull_base.specs.Tiles.{PieceList, FrameListOf}
use Rattle.cull_base.specs.declared.memory.Memory.{Memory}
use Rattle.cull_report.specs.Listed.{listed_by}
use Rattle.cull_report.proofs.frame.pieces_of.Goals as goal

listed : (r : Result FrameListOf Memory) (l : PieceList) → IfOk r (λ f. f.list.members ≡ l.members) → IfOk r (λ f. f.list.size ≡ l.size) → IfOk r (λ f. f.list ≡ l)
listed (Ok f) l m d = rw (← m, ← d) refl
listed (Err e) l m d = tt

pub returns-clause-list : goal.returns-clause-list
returns-clause-list g c =
    let o = c.occluders_of-occluders.result in
    subst (λ (l : PieceList). IfOk c.frame_list_by_workers.result (λ f. f.list ≡ l)) c.occluders_of-occluders.ensures.list
    (listed c.frame_list_by_workers.result (listed_by o) c.frame_list_by_workers.ensures.members c.frame_list_by_workers.ensures.size)
