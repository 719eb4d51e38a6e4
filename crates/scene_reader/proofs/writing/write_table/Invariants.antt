use Rattle.std.proofs.Common.{◌*◌, take, Ok}
use Rattle.std.specs.List.{flat_map}
use Rattle.cull_base.specs.Stream.{Writes}
use Rattle.scene_reader.proofs.writing.write_table.Given as goal

abbrev pub invariant-loop-part : goal.invariant-loop-part
invariant-loop-part g l = Writes (g.W.Sink.says l.fn.sink) (g.W.Sink.says l.sink) (Ok tt) (flat_map g.E.Written.bytes (take (256 * l.part) l.entries))
