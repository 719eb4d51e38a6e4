use Rattle.std.proofs.Common.{◌≡◌, ℕ, subst, sym, ap, ◌∙◌, refl, Result, Ok, Err}
use Rattle.std.specs.Prelude.{IfOk}
use Rattle.cull_base.specs.Sampled.{sampled_list}
use Rattle.cull_base.specs.Tiles.{PieceList}
use Rattle.cull_base.specs.declared.memory.Memory.{Memory}
use Rattle.cull_report.specs.Scene.{frame_list}
use Rattle.scene_reader.specs.Layout.{Parts, IsScene}
use Rattle.masked_update.proofs.SampledLists.{tile_after-sampled}
use Rattle.snap_setup.specs.declared.sampled.KeptList.{KeptList}
use Rattle.cull_report.specs.Listed.{listed_by}
use Rattle.frame_reports.specs.DrawnPieces.{DrawsAs}
use Rattle.frame_reports.proofs.ScenePieces.{frame_pieces_are}
use Rattle.frame_reports.proofs.frames.drawn_pieces.Goals as goal

-- the members that may cover a sample draw as the whole list does
of_sampled : (s : Parts) (frame : ℕ) → IsScene s → DrawsAs (sampled_list (frame_list s frame)) (frame_list s frame)
unfolding frame_list
of_sampled s frame scene = record { size = refl; tiles = λ t lt. tile_after-sampled (frame_list s frame) t scene.size (frame_pieces_are s frame scene) }

sampled_draws : (s : Parts) (frame : ℕ) (r : Result KeptList Memory) (l : PieceList) → IsScene s → l ≡ frame_list s frame → IfOk r (λ k. k.list.list.members ≡ (sampled_list l).members) → IfOk r (λ k. k.list.list.size ≡ l.size)
    → IfOk r (λ k. DrawsAs k.list.list (frame_list s frame))
sampled_draws s frame (Ok k) l scene is members size =
    let e : k.list.list ≡ sampled_list (frame_list s frame) = (λ i. record { size = size i; members = members i }) ∙ ap sampled_list is in
    subst (λ (d : PieceList). DrawsAs d (frame_list s frame)) (sym e) (of_sampled s frame scene)
sampled_draws s frame (Err e) l scene is members size = tt

pub returns-then-bins-eq1-clause-tiles : goal.returns-then-bins-eq1-clause-tiles
returns-then-bins-eq1-clause-tiles g c =
    sampled_draws c.args.scene.now c.args._frame c.sampled_list.result (listed_by c.occluders_of-occluders.result) c.occluders_of-occluders.ensures.scene c.occluders_of-occluders.ensures.list
    c.sampled_list.ensures.members c.sampled_list.ensures.size
