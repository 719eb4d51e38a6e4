use Rattle.std.proofs.Common.{◌≡◌, ℕ, ◌+◌, length, take, arith, refl, inl, inr, subst}
use Rattle.cull_base.specs.Stream.{Takes}
use Rattle.std.proofs.lemmas.List.{length-take}
use Rattle.cull_base.proofs.Takes.{takes_nothing}
use Rattle.cull_base.proofs.Turns.{progress_none}
use Rattle.scene_reader.proofs.Takes.{within_less}
use Rattle.scene_reader.proofs.Turns.{reads_filled, reads_whole}
use Rattle.scene_reader.proofs.reading.read_end.Goals as goal

-- the part ends here
pub returns-then-is_end-clause-ended : goal.returns-then-is_end-clause-ended
returns-then-is_end-clause-ended g c = (takes_nothing _, inr (c.if-is_end.ensures.whole refl))

pub returns-then-is_end-clause-reads : goal.returns-then-is_end-clause-reads
returns-then-is_end-clause-reads g c = reads_whole (progress_none _) (omega arith) (λ is. cc) (within_less c.args.part c.args.taken (c.args.taken + 0) (omega arith) c.requires)

-- the source failed
pub returns-in-Err-clause-reads : goal.returns-in-Err-clause-reads
returns-in-Err-clause-reads g c =
    reads_filled (λ is. c.in-Err.ensures.failed) c.fill.ensures.faults_stay c.fill.ensures.turns c.fill.ensures.takes (c.if-is_end.ensures.more refl)

-- nothing came, so the source is at its end
pub returns-in-Ok-eq0-clause-ended : goal.returns-in-Ok-eq0-clause-ended
returns-in-Ok-eq0-clause-ended g c =
    let none : c.in-Ok-eq0.field-0 ≡ 0 = omega arith in
    (subst (λ (n : ℕ). Takes (g.S.Source.says c.args.source.now).left (g.S.Source.says c.fill.new.source).left (take n c.fill.new.buffer)) none c.in-Ok-eq0.ensures.taken, inl (c.in-Ok-eq0.ensures.ended (omega arith)))

pub returns-in-Ok-eq0-clause-reads : goal.returns-in-Ok-eq0-clause-reads
returns-in-Ok-eq0-clause-reads g c =
    reads_filled (λ is. cc) c.fill.ensures.faults_stay c.fill.ensures.turns c.fill.ensures.takes (c.if-is_end.ensures.more refl)

-- a byte came
pub returns-in-Ok-clause-trailing : goal.returns-in-Ok-clause-trailing
returns-in-Ok-clause-trailing g c refusal =
    let n = c.in-Ok.field-0 in
    let bytes = take n c.fill.new.buffer in
    let within = c.in-Ok.ensures.within in
    let len : length bytes ≡ n = omega (arith, length-take n c.fill.new.buffer, c.fill.auto.buffer, within) in
    record {
      trailing = refl;
      bytes = bytes;
      takes = c.in-Ok.ensures.taken;
      some = omega (arith, len);
      within = within_less c.args.part (c.args.taken + 1) (c.args.taken + length bytes) (omega (arith, len, within)) (c.if-is_end.ensures.more refl);
    }

pub returns-in-Ok-clause-reads : goal.returns-in-Ok-clause-reads
returns-in-Ok-clause-reads g c =
    reads_filled (λ is. cc) c.fill.ensures.faults_stay c.fill.ensures.turns c.fill.ensures.takes (c.if-is_end.ensures.more refl)
