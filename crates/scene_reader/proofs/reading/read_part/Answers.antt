use Rattle.std.proofs.Common.{Some, arith}
use Rattle.std.proofs.lemmas.Result.{IfOk-weaker, IfErr-weaker}
use Rattle.scene_reader.proofs.PartBytes.{part_header, part_layout, told, within_told}
use Rattle.scene_reader.proofs.Refusals.{bytes_first, bytes_only, bytes_refused, bytes_never}
use Rattle.scene_reader.proofs.reading.read_part.Goals as goal

pub returns-clause-ok : goal.returns-clause-ok
returns-clause-ok g c = IfOk-weaker c.read_whole.result _ _ (λ s h. h.reads.scene) c.read_whole.ensures.ok

pub returns-clause-layout : goal.returns-clause-layout
returns-clause-layout g c = IfOk-weaker c.read_whole.result _ _ (λ s h. part_layout c.args.most h.count h.taken.within _ _ s (told (Some c.args.most) _ _ h.count h.taken) h.reads) c.read_whole.ensures.ok

pub returns-clause-only : goal.returns-clause-only
returns-clause-only g c = IfOk-weaker c.read_whole.result _ _ (λ s h. bytes_only _ _ s h.reads) c.read_whole.ensures.ok

pub returns-clause-ok_first : goal.returns-clause-ok_first
returns-clause-ok_first g c = IfOk-weaker c.read_whole.result _ _ (λ s h. bytes_first _ _ s h.reads) c.read_whole.ensures.ok

pub returns-clause-refused : goal.returns-clause-refused
returns-clause-refused g c = IfErr-weaker c.read_whole.result _ _ (λ e h refusal. bytes_refused _ _ e (h refusal).refuses) c.read_whole.ensures.refused

pub returns-clause-not_a_scene : goal.returns-clause-not_a_scene
returns-clause-not_a_scene g c = IfErr-weaker c.read_whole.result _ _ (λ e h refusal. bytes_never _ _ e (h refusal).refuses) c.read_whole.ensures.refused

pub returns-clause-header : goal.returns-clause-header
returns-clause-header g c = IfErr-weaker c.read_whole.result _ _ (λ e h refusal.
    let r = h refusal in
    part_header c.args.most r.count r.taken.within _ _ e (told (Some c.args.most) _ _ r.count r.taken) r.refuses) c.read_whole.ensures.refused

pub returns-clause-within : goal.returns-clause-within
returns-clause-within g c = let r = c.read_whole.ensures.reads in within_told c.args.most _ _ r.takes.bytes r.takes.takes (let few = r.within in omega (arith, few))

pub returns-clause-asked : goal.returns-clause-asked
returns-clause-asked g c = let few = c.read_whole.ensures.reads.asked in omega (arith, few)
