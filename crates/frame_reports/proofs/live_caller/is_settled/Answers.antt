use Rattle.std.proofs.Common.{◌≡◌, sym, ap, ◌∙◌}
use Rattle.cull_base.specs.declared.scene_types.Object.{Object}
use Rattle.cull_base.specs.declared.scene_types.Object.TheVariants.{Mesh}
use Rattle.cull_base.specs.Tiles.{PieceList}
use Rattle.masked_update.specs.TileOf.{tile_at}
use Rattle.cull_report.specs.Scene.{object_area}
use Rattle.cull_report.specs.Settled.{SettlesObject, settled_in}
use Rattle.cull_report.proofs.Forms.{from_place}
use Rattle.frame_reports.proofs.LiveLooks.{list_size, seen_rises}
use Rattle.frame_reports.proofs.Marks.{seen_settles, snapshot_settles}
use Rattle.frame_reports.proofs.live_caller.is_settled.Goals as goal

pub snapshot-requires-clause-size : goal.snapshot-requires-clause-size
snapshot-requires-clause-size g c =
    c.requires.size ∙ sym (ap (λ (l : PieceList). l.size) c.requires.reader.list_is ∙ list_size c.args.watched.now.scene.now c.args.watched.now.frame)

pub returns-clause-value : goal.returns-clause-value
returns-clause-value g c =
    let s = c.args.watched.now.scene.now in let frame = c.args.watched.now.frame in let o = c.args.object in
    let view = c.snapshot.new.into in
    seen_settles s frame o c.object_area-area.result c.args.reader.now c.snapshot.new.self c.args.snapshot.now view c.object_settled.result c.requires.reader.list_is c.requires.size
    (from_place (λ (x : Object). c.object_area-area.result ≡ object_area s frame x) s.objects o (Mesh 0 0) c.requires.object c.object_area-area.ensures) c.snapshot.ensures.held c.snapshot.ensures.read
    (from_place (λ (x : Object). c.object_settled.result ≡ settled_in s frame (λ t. tile_at view.tiles t) x) s.objects o (Mesh 0 0) c.requires.object c.object_settled.ensures.settled)

pub returns-clause-settled : goal.returns-clause-settled
returns-clause-settled g c =
    let s = c.args.watched.now.scene.now in let frame = c.args.watched.now.frame in let o = c.args.object in
    let area = c.object_area-area.result in
    let view = c.snapshot.new.into in
    snapshot_settles s frame o area c.args.reader.now c.snapshot.new.self c.args.snapshot.now view c.object_settled.result c.requires.reader.list_is c.requires.size
    (λ d. from_place (λ (x : Object). area ≡ object_area s frame x) s.objects o d c.requires.object c.object_area-area.ensures) c.snapshot.ensures.held c.snapshot.ensures.read
    (λ d. from_place (λ (x : Object). SettlesObject s frame (λ t. tile_at view.tiles t) x c.object_settled.result) s.objects o d c.requires.object c.object_settled.ensures.early)

pub returns-clause-rises : goal.returns-clause-rises
returns-clause-rises g c = seen_rises c.args.watched.now.scene.now c.object_area-area.result c.args.reader.now c.snapshot.new.self c.args.snapshot.now c.snapshot.new.into c.requires.size c.snapshot.ensures.read
