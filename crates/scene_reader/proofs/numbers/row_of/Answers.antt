use Rattle.std.proofs.Common.{◌≡◌, ◌≢◌, ◌+◌, ◌*◌, ◌<◌, ℕ, ℤ, List, get_or, set, pos, length, arith, rules, below_more, get_or-set_other, get_or-set_same, ◌∙◌, to_z, of_z, w32}
use Rattle.std.proofs.lemmas.List.{length-set}
use Rattle.std.proofs.lemmas.Int.{to_z-of_z}
use mir.Val.{SFits}
use Rattle.std.proofs.lemmas.List.FromFn.{fill_by_all}
use Rattle.scene_reader.specs.Fault.{signed_at, row_of}
use Rattle.scene_reader.proofs.numbers.row_of.Goals as goal

-- one more number is written
wrote : (row : List ℤ) (i : ℕ) (z : ℤ) (read : ℕ → ℤ) → i < length row → z ≡ read i → ((k : ℕ) → k < i → get_or row k (pos 0) ≡ read k)
    → (k : ℕ) → k < i + 1 → get_or (set row i z) k (pos 0) ≡ read k
wrote row i z read lt is before =
    below_more _ _
    (λ k h. let ne : k ≢ i = omega arith in rw get_or-set_other (before k h))
    (rw get_or-set_same is)

pub loop-k-preserved : goal.loop-k-preserved
loop-k-preserved g c =
    let i = c.loop-k.invariant in
    let fits : SFits w32 c.signed_at.result = search rules in
    let same = to_z-of_z w32 c.signed_at.result fits in
    record {
      len = length-set c.loop-k.row c.loop-k.k (to_z w32 (of_z w32 c.signed_at.result)) ∙ i.len;
      read = wrote c.loop-k.row c.loop-k.k (to_z w32 (of_z w32 c.signed_at.result)) (λ k. signed_at (4 * k) c.args.bytes.now) (omega (arith, i.len, c.loop-k-test.true)) (same ∙ c.signed_at.ensures) i.read;
    }

pub returns : goal.returns
unfolding row_of
returns g c = fill_by_all (λ k. signed_at (4 * k) c.args.bytes.now) c.loop-k.row g.row.N (pos 0) c.loop-k.invariant.len (λ k lt. c.loop-k.invariant.read k (omega (arith, lt, c.loop-k-test.false)))
