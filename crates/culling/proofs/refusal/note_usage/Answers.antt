use Rattle.std.proofs.Common.{ℕ, List, inl, take, Result, Ok, Err}
use Rattle.cull_base.specs.declared.memory.SinkError.{SinkError}
use Rattle.cull_base.specs.Stream.{Appends, SinkSays, Writes}
use Rattle.cull_base.proofs.Streams.{appends_then}
use Rattle.frame_reports.specs.Notes.{IsNotedFirst, usage_text}
use Rattle.culling.proofs.refusal.note_usage.Goals as goal

then_more : (before between after : SinkSays) (r : Result (Unit {0}) SinkError) (text more : List ℕ) → Appends before between text → Writes between after r more → IsNotedFirst before after text
then_more before between after (Ok x) text more first writes = inl (more, appends_then before between after text more first writes.ok)
then_more before between after (Err e) text more first writes =
    inl (take writes.err.0 more, appends_then before between after text (take writes.err.0 more) first writes.err.2)

pub returns-in-Some : goal.returns-in-Some
returns-in-Some g c = then_more _ _ _ _ usage_text _ c.in_ok-write_whole.ensures.ok c.write_whole-in-Some.ensures
