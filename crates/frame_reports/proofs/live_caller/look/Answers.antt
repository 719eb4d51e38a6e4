use Rattle.std.proofs.Common.{◌≡◌, ◌<◌, ℕ, length, arith, sym, ap, ◌∙◌, subst}
use Rattle.std.proofs.lemmas.List.{get_or_default}
use Rattle.cull_base.specs.declared.rect.Rect.{Rect}
use Rattle.cull_base.specs.declared.scene_types.Object.{Object}
use Rattle.cull_base.specs.declared.scene_types.Object.TheVariants.{Mesh}
use Rattle.cull_base.specs.Rectangle.{meets}
use Rattle.cull_base.specs.Screen.{Dimensions, tile_count_of, tile_rect_of}
use Rattle.cull_base.specs.Tiles.{PieceList}
use Rattle.masked_update.specs.TileOf.{tile_at}
use Rattle.masked_update.specs.Views.{HoldsMet}
use Rattle.tile_cells.specs.Snapshots.{HoldsExactly, is_held}
use Rattle.cull_report.specs.Live.{object_at, text_of_line}
use Rattle.cull_report.specs.Scene.{object_area, size_of, verdict_in}
use Rattle.cull_report.proofs.Forms.{at_place, from_place}
use Rattle.frame_reports.proofs.LiveLooks.{list_size, look_tells, seen_rises}
use Rattle.frame_reports.proofs.live_caller.look.Goals as goal

pub snapshot-requires-clause-size : goal.snapshot-requires-clause-size
snapshot-requires-clause-size g c =
    c.requires.size ∙ sym (ap (λ (l : PieceList). l.size) c.requires.reader.list_is ∙ list_size c.args.watched.now.scene.now c.args.watched.now.frame)

pub object_verdict-verdict-requires-clause-holds : goal.object_verdict-verdict-requires-clause-holds
object_verdict-verdict-requires-clause-holds g c =
    let s = c.args.watched.now.scene.now in let frame = c.args.watched.now.frame in let o = c.args.numbers.object in
    let lt : o < length s.objects = omega (arith, c.requires.object, c.requires.watched.within) in
    let area = c.object_area-area.result in let view = c.snapshot.new.into in
    let is : area ≡ object_area s frame (object_at s o) = from_place (λ (x : Object). area ≡ object_area s frame x) s.objects o (Mesh 0 0) lt c.object_area-area.ensures in
    let size : view.size ≡ size_of s = c.snapshot.ensures.read.size ∙ c.requires.size in
    let held = subst (λ (d : Dimensions). (t : ℕ) → t < tile_count_of d → is_held view t ≡ meets area (tile_rect_of d t)) size c.snapshot.ensures.held in
    at_place (λ (x : Object). HoldsMet (λ t. is_held view t) (size_of s) (object_area s frame x)) s.objects o (object_at s o) lt
    (get_or_default s.objects o (Mesh 0 0) (object_at s o) lt)
    (subst (HoldsMet (λ t. is_held view t) (size_of s)) is (λ t below met. held t below ∙ met))

pub fill-requires : goal.fill-requires
fill-requires g c =
    let s = c.args.watched.now.scene.now in let frame = c.args.watched.now.frame in let o = c.args.numbers.object in
    let lt : o < length s.objects = omega (arith, c.requires.object, c.requires.watched.within) in
    let area = c.object_area-area.result in
    let is : area ≡ object_area s frame (object_at s o) = from_place (λ (x : Object). area ≡ object_area s frame x) s.objects o (Mesh 0 0) lt c.object_area-area.ensures in
    c.requires.room c.snapshot.new.into (c.snapshot.ensures.read.size ∙ c.requires.size) (subst (λ (a : Rect). HoldsExactly c.snapshot.new.into a) is c.snapshot.ensures.held)

pub returns-clause-told : goal.returns-clause-told
returns-clause-told g c =
    let s = c.args.watched.now.scene.now in let frame = c.args.watched.now.frame in let o = c.args.numbers.object in
    let lt : o < length s.objects = omega (arith, c.requires.object, c.requires.watched.within) in
    let area = c.object_area-area.result in
    let is : area ≡ object_area s frame (object_at s o) = from_place (λ (x : Object). area ≡ object_area s frame x) s.objects o (Mesh 0 0) lt c.object_area-area.ensures in
    let view = c.snapshot.new.into in
    let verdict = c.object_verdict-verdict.result in
    let answered : verdict ≡ verdict_in s frame (λ t. tile_at view.tiles t) (object_at s o) =
    from_place (λ (x : Object). verdict ≡ verdict_in s frame (λ t. tile_at view.tiles t) x) s.objects o (Mesh 0 0) lt c.object_verdict-verdict.ensures.verdict in
    look_tells s frame c.args.numbers.round o area c.args.reader.now c.snapshot.new.self c.args.snapshot.now view verdict c.fill.new.self c.requires.watched.scene c.requires.reader.list_is c.requires.size is
    c.snapshot.ensures.held c.snapshot.ensures.read answered (ap text_of_line c.fill.ensures)

pub returns-clause-rises : goal.returns-clause-rises
returns-clause-rises g c = seen_rises c.args.watched.now.scene.now c.object_area-area.result c.args.reader.now c.snapshot.new.self c.args.snapshot.now c.snapshot.new.into c.requires.size c.snapshot.ensures.read
