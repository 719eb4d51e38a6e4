use Rattle.std.proofs.lemmas.Result.{IfOk-weaker, IfErr-weaker}
use Rattle.scene_reader.proofs.Refusals.{bytes_layout, bytes_first, bytes_only, bytes_refused, bytes_header, bytes_never}
use Rattle.scene_reader.proofs.reading.read_scene.Goals as goal

pub returns-clause-ok : goal.returns-clause-ok
returns-clause-ok g c = IfOk-weaker c.read_whole.result _ _ (λ s h. h.reads.scene) c.read_whole.ensures.ok

pub returns-clause-layout : goal.returns-clause-layout
returns-clause-layout g c = IfOk-weaker c.read_whole.result _ _ (λ s h. bytes_layout _ _ s h.reads) c.read_whole.ensures.ok

pub returns-clause-only : goal.returns-clause-only
returns-clause-only g c = IfOk-weaker c.read_whole.result _ _ (λ s h. bytes_only _ _ s h.reads) c.read_whole.ensures.ok

pub returns-clause-ok_first : goal.returns-clause-ok_first
returns-clause-ok_first g c = IfOk-weaker c.read_whole.result _ _ (λ s h. bytes_first _ _ s h.reads) c.read_whole.ensures.ok

pub returns-clause-refused : goal.returns-clause-refused
returns-clause-refused g c = IfErr-weaker c.read_whole.result _ _ (λ e h refusal. bytes_refused _ _ e (h refusal).refuses) c.read_whole.ensures.refused

pub returns-clause-not_a_scene : goal.returns-clause-not_a_scene
returns-clause-not_a_scene g c = IfErr-weaker c.read_whole.result _ _ (λ e h refusal. bytes_never _ _ e (h refusal).refuses) c.read_whole.ensures.refused

pub returns-clause-header : goal.returns-clause-header
returns-clause-header g c = IfErr-weaker c.read_whole.result _ _ (λ e h refusal. bytes_header _ _ e (h refusal).refuses) c.read_whole.ensures.refused
