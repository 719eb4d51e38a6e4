use Rattle.std.proofs.Common.{◌≡◌, ℕ, ℤ, pos, ◌*◌, ◌*ℤ◌, arith}
use Rattle.std.proofs.lemmas.Int.{ints}
use Rattle.pixel_forms.proofs.nearness_form.product.Goals as goal

turned : (a b : ℕ) (f : ℤ) (n : ℕ) → pos a ≡ f → b ≡ n → pos (a * b) ≡ pos n *ℤ f
turned a b f n ef en = let e : a * b ≡ b * a = omega arith in rw (← ef, ← en) (omega (arith, ints, e))

pub returns : goal.returns
returns c =
    let e : pos c.from.result ≡ c.args.form = omega (arith, ints, c.from.ensures, c.requires.form) in
    turned c.from.result c.from-2.result c.args.form c.args.nearest e c.from-2.ensures
