use Rattle.std.proofs.Common.{◌≡◌, ◌+◌, ◌≤◌, length, take, Some, arith, ap, ◌∙◌, inl, inr}
use Rattle.std.proofs.lemmas.Bool.{cases_lt}
use Rattle.std.proofs.lemmas.List.{length-take}
use Rattle.scene_reader.specs.declared.error.SceneError.TheVariants.{Truncated}
use Rattle.scene_reader.proofs.intake.fetch_rest.Goals as goal

pub returns-in-Ok-clause-short : goal.returns-in-Ok-clause-short
returns-in-Ok-clause-short g c refusal =
    let n = c.in-Ok.n in
    let all = length c.args.rest.now in
    let within : n ≤ all = c.in-Ok.ensures.within in
    let bytes = take n c.fill.new.buffer in
    let len : length bytes ≡ n = omega (arith, length-take n c.fill.new.buffer, c.fill.auto.buffer, within) in
    let sum : c.args.taken + length bytes ≡ c.args.taken + n = omega (arith, len) in
    record {
      bytes = bytes;
      takes = c.in-Ok.ensures.taken;
      few = omega (arith, len, within);
      within = omega (arith, len, within);
      ended = elim (cases_lt n all) [
        | inl short ↦ inl (c.in-Ok.ensures.ended short)
        | inr whole ↦ inr (ap Some (omega (arith, len, within, whole)))
      ];
      truncated = c.truncated.ensures ∙ ap (Truncated c.args.need) (omega (arith, len));
    }
