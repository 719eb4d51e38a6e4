-- Which numbers a column reaches.
use Rattle.std.proofs.Common.{◌≡◌, ◌↔◌, ℕ, ◌<◌, List, Bool, true, ◌&&◌, Option, None, sym, ap, ◌∙◌, arith}
use Rattle.std.specs.Option.{is_some}
use Rattle.std.proofs.lemmas.Bool.{and_parts, and_from, false≢true}
use Rattle.float_bits.specs.Numbers.{IsDecoded}
use Rattle.float_bits.specs.declared.number.Number.{Number}
use Rattle.exact_clip.specs.Lost.{IsColumnInReach}
use Rattle.exact_clip.specs.Terms.{IsColumn}
use Rattle.exact_clip.specs.declared.column.Column.{Column}

pub reached : (exponent : ℕ) (matrix : List ℕ) (k b : ℕ) (c : Column) (n : Number) → IsColumn exponent matrix k c → IsDecoded b n → n.power < c.room → IsColumnInReach exponent matrix k b
reached exponent matrix k b c n column number h =
    let e = number.power in let r = column.room in let x = column.x.room in let y = column.y.room in let w = column.w.room in
    record { x = omega (arith, e, r, x, y, w, h); y = omega (arith, e, r, x, y, w, h); w = omega (arith, e, r, x, y, w, h) }

pub reaches : (exponent : ℕ) (matrix : List ℕ) (k b : ℕ) (c : Column) (n : Number) → IsColumn exponent matrix k c → IsDecoded b n → IsColumnInReach exponent matrix k b → n.power < c.room
reaches exponent matrix k b c n column number h =
    let e = number.power in let r = column.room in let x = column.x.room in let y = column.y.room in let w = column.w.room in
    omega (arith, e, r, x, y, w, h.x, h.y, h.w)

-- three tests at once
pub three_true : (a b d : Bool) (A B D : Type 0) → (a ≡ true) ↔ A → (b ≡ true) ↔ B → (d ≡ true) ↔ D → (((a && b) && d) ≡ true) ↔ (A × B × D)
three_true a b d A B D f g h = (
  λ e. let p = and_parts (a && b) d e in let q = and_parts a b p.0 in (f.0 q.0, g.0 q.1, h.0 p.1),
  λ t. and_from (a && b) d (and_from a b (f.1 t.0) (g.1 t.1)) (h.1 t.2),
)

-- nothing where a fact fails
pub nothing : {X : Type 0} (r : Option X) (P : Type 0) → r ≡ None → (P → ⊥) → (is_some r ≡ true) ↔ P
nothing {X = X} r P e n = (λ h. absurd (false≢true (sym (ap (λ (o : Option X). is_some o) e) ∙ h)), λ p. absurd (n p))
