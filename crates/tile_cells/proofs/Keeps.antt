-- Each kind of step keeps the rule.
use Rattle.std.proofs.Common.{◌≡◌, ◌≢◌, inl, inr, ⊎_elim, ℕ, zero, suc, ◌+◌, ◌≤◌, max, List, [], ◌∷◌, ◌++◌, set, refl, sym, ap, ◌∙◌, subst, le_refl, arith}
use Rattle.std.specs.Prelude.{slice_index}
use mathlib.Core.Option.{some, some-ne-none, some-injective}
use lib.ListN.{get_elem?}
use Rattle.crossbeam_utils.specs.Register.{Turns, Forks, Merges}
use Rattle.atomic_table.proofs.Lists.{at_set, at_snoc}
use Rattle.cull_base.specs.Tiles.{PieceList}
use Rattle.cull_base.proofs.Lists.{only_one}
use Rattle.tile_cells.specs.declared.rule.Role.{Role}
use Rattle.tile_cells.specs.declared.rule.Role.TheVariants.{Unnamed, Writes, Reads, Spent}
use Rattle.tile_cells.specs.declared.rule.View.{View}
use Rattle.tile_cells.specs.Words.{HoldsAt, no_words}
use Rattle.tile_cells.specs.Rule.{nameless, writer, reader, spent, FitsAs, Fits, Running, CellRule, Stored, Loaded, Checked, learned, ended, IsWriter, IsReader, AreOfOne}
use Rattle.tile_cells.proofs.Opening.{holds_none}

abbrev IsUnnamed : Role → Type 0
IsUnnamed Unnamed = Unit {0}
IsUnnamed Writes = ⊥
IsUnnamed Reads = ⊥
IsUnnamed Spent = ⊥

-- a cell of which a view knows its name
named : {X : Type 0} (words : List ℕ) (views : List View) (by : ℕ) (v : View) → (IsUnnamed v.role → ⊥) → get_elem? views by ≡ some v → CellRule words views
    → ((seat : ℕ) (L : PieceList) (t k : ℕ) → Running words views seat L t k → X) → X
named words views by v not at kept then =
    ⊎_elim (λ (n : (words ≡ no_words) × (views ≡ nameless ∷ [])). absurd (not (subst (λ (u : View). IsUnnamed u.role) (only_one nameless views by v n.1 at) tt)))
    (λ (r : (seat : ℕ) × (L : PieceList) × (t : ℕ) × (k : ℕ) × Running words views seat L t k). then r.0 r.1 r.2 r.3 r.4) kept

-- others do not mind a greater count
raise_as : (r : Role) (seat : ℕ) (L : PieceList) (t k j : ℕ) (u : View) → j ≢ seat → FitsAs r seat L t k j u → FitsAs r seat L t (k + 1) j u
raise_as Unnamed seat L t k j u ne f = f
raise_as Writes seat L t k j u ne f = absurd (ne f.0)
raise_as Reads seat L t k j u ne f = (f.0, let h : u.number ≤ k = f.1 in omega arith)
raise_as Spent seat L t k j u ne f = tt

fits_set : (seat : ℕ) (L : PieceList) (t k : ℕ) (views : List View) (by : ℕ) (w : View) → ((j : ℕ) (u : View) → j ≢ by → get_elem? views j ≡ some u → Fits seat L t k j u) → Fits seat L t k by w
    → (j : ℕ) (u : View) → get_elem? (set views by w) j ≡ some u → Fits seat L t k j u
fits_set seat L t k views by w others mine j u e =
    ⊎_elim
    (λ (x : (j ≡ by) × (w ≡ u)). subst (λ (y : ℕ × View). Fits seat L t k y.0 y.1) (λ i. (sym x.0 i, x.1 i)) mine)
    (λ (x : (j ≢ by) × (get_elem? views j ≡ some u)). others j u x.0 x.1)
    (at_set views by j w u e)

fits_snoc : (seat : ℕ) (L : PieceList) (t k : ℕ) (views : List View) (new : View) → ((j : ℕ) (u : View) → get_elem? views j ≡ some u → Fits seat L t k j u) → ((j : ℕ) → Fits seat L t k j new)
    → (j : ℕ) (u : View) → get_elem? (views ++ new ∷ []) j ≡ some u → Fits seat L t k j u
fits_snoc seat L t k views new old fresh j u e = ⊎_elim (λ was. old j u was) (λ (same : new ≡ u). subst (Fits seat L t k j) same (fresh j)) (at_snoc views new u j e)

running : {words : List ℕ} {views : List View} {seat : ℕ} {L : PieceList} {t k : ℕ} → HoldsAt words t k L → ((j : ℕ) (u : View) → get_elem? views j ≡ some u → Fits seat L t k j u) → CellRule words views
running {seat = seat} {L = L} {t = t} {k = k} holds fit = inr (seat, L, t, k, record { holds = holds; fit = fit })

-- what the writer's view says of a named cell
mine : (words : List ℕ) (views : List View) (seat by : ℕ) (L L' : PieceList) (t t' k k' h : ℕ) → Running words views seat L' t' k' → get_elem? views by ≡ some (writer L t k h)
    → (by ≡ seat) × Running words views seat L t k × (h ≤ k)
mine words views seat by L L' t t' k k' h run at =
    let f : (by ≡ seat) × (writer L t k h ≡ writer L' t' k' h) × (h ≤ k') = run.fit by (writer L t k h) at in
    let l : L' ≡ L = sym (ap (λ (v : View). v.list) f.1) in
    let m : t' ≡ t = sym (ap (λ (v : View). v.tile) f.1) in
    let n : k' ≡ k = sym (ap (λ (v : View). v.number) f.1) in
    (f.0, subst (λ (z : PieceList × ℕ × ℕ). Running words views seat z.0 z.1 z.2) (λ i. (l i, m i, n i)) run, subst (λ z. h ≤ z) n f.2)

-- what a reader's view says of a named cell
theirs : (words : List ℕ) (views : List View) (seat by : ℕ) (L L' : PieceList) (t t' k' s n : ℕ) → Running words views seat L' t' k' → get_elem? views by ≡ some (reader L t s n)
    → Running words views seat L t k' × (s ≤ k')
theirs words views seat by L L' t t' k' s n run at =
    let f : (reader L t s n ≡ reader L' t' s n) × (s ≤ k') = run.fit by (reader L t s n) at in
    let l : L' ≡ L = sym (ap (λ (v : View). v.list) f.0) in
    let m : t' ≡ t = sym (ap (λ (v : View). v.tile) f.0) in
    (subst (λ (z : PieceList × ℕ). Running words views seat z.0 z.1 k') (λ i. (l i, m i)) run, f.1)

pub begins : CellRule no_words (nameless ∷ [])
begins = inl (refl, refl)

is_named : (by : ℕ) (L : PieceList) (t : ℕ) → Forks CellRule by nameless (writer L t 0 0) spent
is_named by L t words views kept at =
    ⊎_elim
    (λ (n : (words ≡ no_words) × (views ≡ nameless ∷ [])).
    running {seat = by} (subst (λ (w : List ℕ). HoldsAt w t 0 L) (sym n.0) (holds_none t L)) (two_of by L t views n.1 at))
    (λ (r : (seat : ℕ) × (L : PieceList) × (t : ℕ) × (k : ℕ) × Running words views seat L t k). absurd (r.4.fit by nameless at))
    kept
  where
    at_two : (L : PieceList) (t : ℕ) (by : ℕ) → get_elem? (nameless ∷ []) by ≡ some nameless → (j : ℕ) (u : View) → get_elem? (set (nameless ∷ []) by (writer L t 0 0) ++ spent ∷ []) j ≡ some u → Fits by L t 0 j u
    at_two L t zero e zero u f = subst (Fits 0 L t 0 0) (some-injective _ _ f) (refl, refl, le_refl 0)
    at_two L t zero e (suc zero) u f = subst (Fits 0 L t 0 1) (some-injective _ _ f) tt
    at_two L t zero e (suc (suc j)) u f = absurd (some-ne-none u (sym f))
    at_two L t (suc by) e j u f = absurd (some-ne-none nameless (sym e))

    two_of : (by : ℕ) (L : PieceList) (t : ℕ) (views : List View) → views ≡ nameless ∷ [] → get_elem? views by ≡ some nameless → (j : ℕ) (u : View) → get_elem? (set views by (writer L t 0 0) ++ spent ∷ []) j ≡ some u → Fits by L t 0 j u
    two_of by L t views is at j u f = at_two L t by (subst (λ (l : List View). get_elem? l by ≡ some nameless) is at) j u (subst (λ (l : List View). get_elem? (set l by (writer L t 0 0) ++ spent ∷ []) j ≡ some u) is f)

stores : (by : ℕ) (L : PieceList) (t k h : ℕ) (new : List ℕ) → HoldsAt new t (k + 1) L → Turns CellRule by (writer L t k h) (λ _. new) Stored
stores by L t k h new holds words views kept at =
    named words views by (writer L t k h) (λ x. x) at kept
    (λ seat L' t' k' run.
    let m = mine words views seat by L L' t t' k k' h run at in
    let w = writer L t (k + 1) h in
    let hk : h ≤ k = m.2 in (
      w,
      running {seat = seat} holds (fits_set seat L t (k + 1) views by w (λ j u ne e. raise_as u.role seat L t k j u (λ q. ne (q ∙ sym m.0)) (m.1.fit j u e)) (m.0, refl, omega arith)),
      refl,
    ))

loads : (by : ℕ) (L : PieceList) (t s n : ℕ) → Turns CellRule by (reader L t s n) (λ x. x) Loaded
loads by L t s n words views kept at =
    named words views by (reader L t s n) (λ x. x) at kept
    (λ seat L' t' k run.
    let m = theirs words views seat by L L' t t' k s n run at in
    let first : slice_index words 0 ≡ k = ap (λ (l : List ℕ). slice_index l 0) m.0.holds.words_are in
    let w = reader L t (slice_index words 0) (n + 1) in (
      w,
      running {seat = seat} m.0.holds (fits_set seat L t k views by w (λ j u ne e. m.0.fit j u e) (refl, subst (λ z. z ≤ k) (sym first) (le_refl k))),
      record { view = refl; rises = subst (λ z. s ≤ z) (sym first) m.1; holds = subst (λ z. HoldsAt words t z L) (sym first) m.0.holds },
    ))

checks : (by : ℕ) (L : PieceList) (t k h : ℕ) → Turns CellRule by (writer L t k h) (λ x. x) Checked
checks by L t k h words views kept at =
    named words views by (writer L t k h) (λ x. x) at kept
    (λ seat L' t' k' run.
    let m = mine words views seat by L L' t t' k k' h run at in
    let w = writer L t k h in (
      w,
      running {seat = seat} m.1.holds (fits_set seat L t k views by w (λ j u ne e. m.1.fit j u e) (m.0, refl, m.2)),
      record { view = refl; heard = m.2; holds = m.1.holds },
    ))

tells : (by : ℕ) (L : PieceList) (t k h : ℕ) → Forks CellRule by (writer L t k h) (writer L t k h) (reader L t k 0)
tells by L t k h words views kept at =
    named words views by (writer L t k h) (λ x. x) at kept
    (λ seat L' t' k' run.
    let m = mine words views seat by L L' t t' k k' h run at in
    let w = writer L t k h in
    running {seat = seat} m.1.holds (fits_snoc seat L t k (set views by w) (reader L t k 0) (fits_set seat L t k views by w (λ j u ne e. m.1.fit j u e) (m.0, refl, m.2)) (λ j. (refl, le_refl k))))

moves : (by : ℕ) (L : PieceList) (t s n : ℕ) → Forks CellRule by (reader L t s n) spent (reader L t s n)
moves by L t s n words views kept at =
    named words views by (reader L t s n) (λ x. x) at kept
    (λ seat L' t' k run.
    let m = theirs words views seat by L L' t t' k s n run at in
    running {seat = seat} m.0.holds (fits_snoc seat L t k (set views by spent) (reader L t s n) (fits_set seat L t k views by spent (λ j u ne e. m.0.fit j u e) tt) (λ j. (refl, m.1))))

least : (a b k : ℕ) → a ≤ k → b ≤ k → max a b ≤ k
least a b k p q = omega arith

-- the other's view is one of those before
other_at : (views : List View) (by other : ℕ) (w u : View) → ¬ (other ≡ by) → get_elem? (set views by w) other ≡ some u → get_elem? views other ≡ some u
other_at views by other w u ne e = ⊎_elim (λ (t : (other ≡ by) × (w ≡ u)). absurd (ne t.0)) (λ (t : (other ≢ by) × (get_elem? views other ≡ some u)). t.1) (at_set views by other w u e)

learns : (by : ℕ) (L : PieceList) (t s n other s' n' : ℕ) → Merges CellRule by (reader L t s n) other (reader L t s' n') (learned (reader L t s n) (reader L t s' n')) spent
learns by L t s n other s' n' words views kept at apart there =
    named words views by (reader L t s n) (λ x. x) at kept
    (λ seat L' t' k run.
    let m = theirs words views seat by L L' t t' k s n run at in
    let w = learned (reader L t s n) (reader L t s' n') in
    let o = theirs words views seat other L L t t k s' n' m.0 (other_at views by other w (reader L t s' n') apart there) in
    running {seat = seat} m.0.holds (fits_set seat L t k (set views by w) other spent (λ j u _ e. fits_set seat L t k views by w (λ i y _ f. m.0.fit i y f) (refl, least s s' k m.1 o.1) j u e) tt))

ends : (by : ℕ) (L : PieceList) (t k h other s n : ℕ) → Merges CellRule by (writer L t k h) other (reader L t s n) (ended (writer L t k h) (reader L t s n)) spent
ends by L t k h other s n words views kept at apart there =
    named words views by (writer L t k h) (λ x. x) at kept
    (λ seat L' t' k' run.
    let m = mine words views seat by L L' t t' k k' h run at in
    let w = ended (writer L t k h) (reader L t s n) in
    let o = theirs words views seat other L L t t k s n m.1 (other_at views by other w (reader L t s n) apart there) in
    running {seat = seat} m.1.holds (fits_set seat L t k (set views by w) other spent (λ j u _ e. fits_set seat L t k views by w (λ i y _ f. m.1.fit i y f) (m.0, refl, least h s k m.2 o.1) j u e) tt))

-- the same at a view of which only the role is known
pub named_as : (by : ℕ) (v : View) (L : PieceList) (t : ℕ) → v ≡ nameless → Forks CellRule by v (writer L t 0 0) spent
named_as by v L t is = subst (λ (u : View). Forks CellRule by u (writer L t 0 0) spent) (sym is) (is_named by L t)

pub stores_as : (by : ℕ) (v : View) (new : List ℕ) → IsWriter v → HoldsAt new v.tile (v.number + 1) v.list → Turns CellRule by v (λ _. new) Stored
stores_as by v new is holds = subst (λ (u : View). Turns CellRule by u (λ _. new) Stored) (sym is) (stores by v.list v.tile v.number v.heard new holds)

pub loads_as : (by : ℕ) (v : View) → IsReader v → Turns CellRule by v (λ x. x) Loaded
loads_as by v is = subst (λ (u : View). Turns CellRule by u (λ x. x) Loaded) (sym is) (loads by v.list v.tile v.number v.loads)

pub checks_as : (by : ℕ) (v : View) → IsWriter v → Turns CellRule by v (λ x. x) Checked
checks_as by v is = subst (λ (u : View). Turns CellRule by u (λ x. x) Checked) (sym is) (checks by v.list v.tile v.number v.heard)

pub tells_as : (by : ℕ) (v : View) → IsWriter v → Forks CellRule by v v (reader v.list v.tile v.number 0)
tells_as by v is = subst (λ (u : View). Forks CellRule by u u (reader u.list u.tile u.number 0)) (sym is) (tells by v.list v.tile v.number v.heard)

pub moves_as : (by : ℕ) (v : View) → IsReader v → Forks CellRule by v spent v
moves_as by v is = subst (λ (u : View). Forks CellRule by u spent u) (sym is) (moves by v.list v.tile v.number v.loads)

read_of : (v w : View) → IsReader w → AreOfOne w v → w ≡ reader v.list v.tile w.number w.loads
read_of v w is one = is ∙ (λ i. reader (one.list i) (one.tile i) w.number w.loads)

pub learns_as : (by : ℕ) (v : View) (other : ℕ) (w : View) → IsReader v → IsReader w → AreOfOne w v → Merges CellRule by v other w (learned v w) spent
learns_as by v other w iv iw one =
    subst (λ (z : View × View). Merges CellRule by z.0 other z.1 (learned z.0 z.1) spent) (λ i. (sym iv i, sym (read_of v w iw one) i)) (learns by v.list v.tile v.number v.loads other w.number w.loads)

pub ends_as : (by : ℕ) (v : View) (other : ℕ) (w : View) → IsWriter v → IsReader w → AreOfOne w v → Merges CellRule by v other w (ended v w) spent
ends_as by v other w iv iw one =
    subst (λ (z : View × View). Merges CellRule by z.0 other z.1 (ended z.0 z.1) spent) (λ i. (sym iv i, sym (read_of v w iw one) i)) (ends by v.list v.tile v.number v.heard other w.number w.loads)
