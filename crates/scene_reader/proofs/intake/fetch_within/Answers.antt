use Rattle.std.proofs.Common.{◌≡◌, ◌+◌, ◌<◌, ◌≤◌, length, take, arith, ap, sym, ◌∙◌, inl}
use Rattle.std.proofs.lemmas.List.{length-take}
use Rattle.scene_reader.specs.declared.error.SceneError.TheVariants.{Read, Truncated}
use Rattle.scene_reader.proofs.Refusals.{err_is}
use Rattle.scene_reader.proofs.Takes.{within_less}
use Rattle.scene_reader.proofs.Turns.{reads_filled}
use Rattle.scene_reader.proofs.intake.fetch_within.Goals as goal

pub returns-in-Err-clause-fetches : goal.returns-in-Err-clause-fetches
returns-in-Err-clause-fetches g c = record {
  short = λ refusal. absurd refusal;
  reads = reads_filled (λ is. c.in-Err.ensures.failed) c.fill.ensures.faults_stay c.fill.ensures.turns c.fill.ensures.takes c.requires.within;
  within = tt;
}

-- fewer came
pub returns-in-Ok-clause-fetches : goal.returns-in-Ok-clause-fetches
returns-in-Ok-clause-fetches g c =
    let n = c.in-Ok.n in
    let bytes = take n c.fill.new.buffer in
    let within : n ≤ length c.args.buffer.now = c.in-Ok.ensures.within in
    let len : length bytes ≡ n = omega (arith, length-take n c.fill.new.buffer, c.fill.auto.buffer, within) in
    let few : n < length c.args.buffer.now = omega (arith, c.if-n-buffer.true, c.fill.auto.buffer) in
    record {
      short = λ refusal. record {
        bytes = bytes;
        takes = c.in-Ok.ensures.taken;
        few = omega (arith, len, few);
        within = within_less c.args._part (c.args.taken + length c.args.buffer.now) (c.args.taken + length bytes) (omega (arith, len, within)) c.requires.within;
        ended = inl (c.in-Ok.ensures.ended few);
        truncated = c.truncated.ensures ∙ ap (Truncated c.args.need) (omega (arith, len));
      };
      reads = reads_filled (λ is. let no : Read ≡ Truncated c.args.need (c.args.taken + n) = sym (err_is _ _ is) ∙ c.truncated.ensures in absurd cc) c.fill.ensures.faults_stay c.fill.ensures.turns c.fill.ensures.takes c.requires.within;
      within = tt;
    }

-- all came
pub returns-in-Ok-2-clause-fetches : goal.returns-in-Ok-2-clause-fetches
returns-in-Ok-2-clause-fetches g c = record {
  short = tt;
  reads = reads_filled (λ is. cc) c.fill.ensures.faults_stay c.fill.ensures.turns c.fill.ensures.takes c.requires.within;
  within = c.requires.within;
}
