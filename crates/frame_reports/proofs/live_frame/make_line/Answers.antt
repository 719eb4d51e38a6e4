use Rattle.std.proofs.Common.{◌≡◌, ◌<◌, ◌*◌, length, arith, ◌∙◌, subst}
use Rattle.std.proofs.lemmas.Result.{IfOk-weaker}
use Rattle.cull_base.specs.declared.scene_types.Object.{Object}
use Rattle.cull_base.specs.declared.scene_types.Object.TheVariants.{Mesh}
use Rattle.cull_base.specs.Screen.{Dimensions, IsSize}
use Rattle.cull_base.specs.Span.{HasTilesOf, IsSpan, tiles_in}
use Rattle.cull_report.specs.Live.{LiveLineOf, object_at}
use Rattle.cull_report.specs.Scene.{object_area, size_of}
use Rattle.cull_report.proofs.Forms.{from_place}
use Rattle.frame_reports.specs.LiveFrames.{RoomFor}
use Rattle.frame_reports.proofs.LiveLooks.{line_has_room}
use Rattle.frame_reports.proofs.live_frame.make_line.Goals as goal

pub returns : goal.returns
returns c =
    let s = c.args.watched.now.scene.now in let frame = c.args.watched.now.frame in let o = c.args.object in
    let lt : o < length s.objects = omega (arith, c.requires.object, c.requires.watched.within) in
    let area = c.object_area-area.result in
    let is : area ≡ object_area s frame (object_at s o) = from_place (λ (x : Object). area ≡ object_area s frame x) s.objects o (Mesh 0 0) lt c.object_area-area.ensures in
    let span = c.of-span.result in
    let tiles : HasTilesOf span (size_of s) area = subst (λ (d : Dimensions). HasTilesOf span d area) c.size.ensures c.of-span.ensures.tiles in
    let spans : IsSpan (size_of s) span = subst (λ (d : Dimensions). IsSpan d span) c.size.ensures c.of-span.ensures.span in
    let sized : IsSize s.width s.height = subst (λ (d : Dimensions). IsSize d.width d.height) c.size.ensures c.of-span.ensures.sized in
    let places : c.columns.result * c.rows.result ≡ tiles_in span = (λ i. c.columns.ensures i * c.rows.ensures i) in
    IfOk-weaker c.with_room.result (λ (l : LiveLineOf). l.room ≡ c.columns.result * c.rows.result) (λ (l : LiveLineOf). RoomFor s frame o l.room)
    (λ l p. line_has_room s frame o area span l.room is tiles spans sized (p ∙ places)) c.with_room.ensures.room
