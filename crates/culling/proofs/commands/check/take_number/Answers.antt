use Rattle.std.proofs.Common.{◌≡◌, ℕ, ◌<◌, length, take, arith, refl, sym, ap, ◌∙◌, subst, inl, inr, w32}
use Rattle.std.specs.Int.{from_le_bytes}
use Rattle.std.proofs.lemmas.List.{length-take, take_all}
use Rattle.cull_base.specs.Stream.{Takes}
use Rattle.scene_reader.specs.declared.error.SceneError.TheVariants.{Truncated}
use Rattle.frame_reports.specs.declared.failure.Failure.TheVariants.{Scene}
use Rattle.culling.proofs.Checking.{lowest_first}
use Rattle.culling.proofs.commands.check.take_number.Goals as goal

pub returns-in-Err-clause-none : goal.returns-in-Err-clause-none
returns-in-Err-clause-none g c = inr (refl, c.in-Err.ensures.failed)

-- four bytes came
pub returns-in-Ok-eq4-clause-number : goal.returns-in-Ok-eq4-clause-number
returns-in-Ok-eq4-clause-number g c =
    let bytes = c.fill.new.buffer in
    let four : c.in-Ok-eq4.field-0 ≡ 4 = omega arith in
    let whole : take 4 bytes ≡ bytes = take_all 4 bytes (omega (arith, c.fill.auto.buffer)) in
    record {
      bytes = take 4 bytes;
      takes = subst (λ (n : ℕ). Takes (g.S.Source.says c.args.input.now).left (g.S.Source.says c.fill.new.source).left (take n bytes)) four c.in-Ok-eq4.ensures.taken;
      four = omega (arith, length-take 4 bytes, c.fill.auto.buffer);
      says = c.read_u32.ensures ∙ lowest_first bytes ∙ ap (from_le_bytes w32) (sym (ap (take 4) whole ∙ whole));
    }

-- fewer came
pub returns-in-Ok-clause-none : goal.returns-in-Ok-clause-none
returns-in-Ok-clause-none g c =
    let have = c.in-Ok.have in
    let bytes = take have c.fill.new.buffer in
    let few : have < 4 = omega (arith, c.in-Ok.ensures.within, c.fill.auto.buffer) in
    let len : length bytes ≡ have = omega (arith, length-take have c.fill.new.buffer, c.fill.auto.buffer, few) in
    inl (bytes, c.in-Ok.ensures.taken, omega (arith, len, few), c.in-Ok.ensures.ended few, ap (λ n. Scene (Truncated 4 n)) (sym len))
