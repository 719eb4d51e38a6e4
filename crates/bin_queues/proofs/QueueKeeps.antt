-- Each kind of step keeps the rule of a bin's queue.
use Rattle.std.proofs.Common.{◌≡◌, ◌≢◌, inr, ⊎_elim, ℕ, zero, suc, ◌+◌, ◌≤◌, ◌<◌, max, List, [], ◌∷◌, ◌++◌, length, set, refl, sym, ap, ◌∙◌, subst, le_refl, zero-le, arith}
use mathlib.Core.Option.{some, some-ne-none, some-injective}
use lib.ListN.{get_elem?}
use Rattle.crossbeam_queue.specs.Fifo.{Pushes, Pops, Forks, Merges, Learns}
use Rattle.atomic_table.proofs.Lists.{at_set, at_snoc}
use Rattle.binning.specs.Parts.{PartOf}
use Rattle.bin_queues.specs.QueueParts.{BinOfFrame, batches_in, nth_part, parts_from}
use Rattle.bin_queues.specs.declared.queue_rule.Role.{Role}
use Rattle.bin_queues.specs.declared.queue_rule.Role.TheVariants.{Unnamed, Submits, Takes, Notes, Spent}
use Rattle.bin_queues.specs.declared.queue_rule.View.{View}
use Rattle.bin_queues.specs.QueueRule.{nameless, submitter, taker, note, spent, FitsAs, Fits, Running, QueueRule, Pushed, AtMost, Popped, Told, told_by, IsSubmitter, IsTaker, IsNote}

abbrev IsUnnamed : Role → Type 0
IsUnnamed Unnamed = Unit {0}
IsUnnamed Submits = ⊥
IsUnnamed Takes = ⊥
IsUnnamed Notes = ⊥
IsUnnamed Spent = ⊥

-- lists of parts
length_parts : (b : BinOfFrame) (q n : ℕ) → length (parts_from b q n) ≡ n
length_parts b q zero = refl
length_parts b q (suc n) = ap suc (length_parts b (suc q) n)

parts_more : (b : BinOfFrame) (q n : ℕ) → parts_from b q n ++ nth_part b (q + n) ∷ [] ≡ parts_from b q (suc n)
parts_more b q zero = let e : q + 0 ≡ q = omega arith in ap (λ i. nth_part b i ∷ []) e
parts_more b q (suc n) = let e : q + suc n ≡ suc q + n = omega arith in
    ap (λ i. nth_part b q ∷ (parts_from b (suc q) n ++ nth_part b i ∷ [])) e ∙ ap (λ l. nth_part b q ∷ l) (parts_more b (suc q) n)

abbrev head_of : PartOf → List PartOf → PartOf
head_of d [] = d
head_of d (x ∷ xs) = x

abbrev tail_of : List PartOf → List PartOf
tail_of [] = []
tail_of (x ∷ xs) = xs

-- the one view of a new queue
only : (views : List View) (by : ℕ) (v : View) → views ≡ nameless ∷ [] → get_elem? views by ≡ some v → nameless ≡ v
only views by v is at = go by (subst (λ (l : List View). get_elem? l by ≡ some v) is at)
  where
    go : (by : ℕ) → get_elem? (nameless ∷ []) by ≡ some v → nameless ≡ v
    go zero e = some-injective _ _ e
    go (suc by) e = absurd (some-ne-none v (sym e))

-- a queue of which a view knows its name
named : {X : Type 0} (items : List PartOf) (views : List View) (by : ℕ) (v : View) → (IsUnnamed v.role → ⊥) → get_elem? views by ≡ some v → QueueRule items views
    → ((b : BinOfFrame) (q n : ℕ) → Running items views b q n → X) → X
named items views by v not at kept then =
    ⊎_elim (λ (n : (items ≡ []) × (views ≡ nameless ∷ [])). absurd (not (subst (λ (u : View). IsUnnamed u.role) (only views by v n.1 at) tt)))
    (λ (r : (b : BinOfFrame) × (q : ℕ) × (n : ℕ) × Running items views b q n). then r.0 r.1 r.2 r.3) kept

running : {items : List PartOf} {views : List View} (b : BinOfFrame) (q n : ℕ) → q + n ≤ batches_in b.frame → items ≡ parts_from b q n → ((j : ℕ) (u : View) → get_elem? views j ≡ some u → Fits b q n j u) → QueueRule items views
running b q n within holds fit = inr (b, q, n, record { within = within; holds = holds; fit = fit })

fits_set : (b : BinOfFrame) (q n : ℕ) (views : List View) (by : ℕ) (w : View) → ((j : ℕ) (u : View) → j ≢ by → get_elem? views j ≡ some u → Fits b q n j u) → Fits b q n by w
    → (j : ℕ) (u : View) → get_elem? (set views by w) j ≡ some u → Fits b q n j u
fits_set b q n views by w others mine j u e =
    ⊎_elim
    (λ (x : (j ≡ by) × (w ≡ u)). subst (λ (y : ℕ × View). Fits b q n y.0 y.1) (λ i. (sym x.0 i, x.1 i)) mine)
    (λ (x : (j ≢ by) × (get_elem? views j ≡ some u)). others j u x.0 x.1)
    (at_set views by j w u e)

-- another's view, after a push: one part more is there
more_as : (r : Role) (b : BinOfFrame) (q n j : ℕ) (u : View) → j ≢ 0 → FitsAs r b q n j u → FitsAs r b q (suc n) j u
more_as Unnamed b q n j u ne f = f
more_as Submits b q n j u ne f = absurd (ne f.0)
more_as Takes b q n j u ne f = (f.0, f.1, let h : u.told ≤ q + n = f.2 in omega arith)
more_as Notes b q n j u ne f = (f.0, let h : u.number ≤ q + n = f.1 in omega arith)
more_as Spent b q n j u ne f = tt

-- another's view, after a pop: one part moves over
over_as : (r : Role) (b : BinOfFrame) (q n j : ℕ) (u : View) → j ≢ 1 → FitsAs r b q (suc n) j u → FitsAs r b (suc q) n j u
over_as Unnamed b q n j u ne f = f
over_as Submits b q n j u ne f = (f.0, let e : q + suc n ≡ suc q + n = omega arith in f.1 ∙ ap (submitter b) e)
over_as Takes b q n j u ne f = absurd (ne f.0)
over_as Notes b q n j u ne f = (f.0, let h : u.number ≤ q + suc n = f.1 in omega arith)
over_as Spent b q n j u ne f = tt

-- what the submitter's view says of a named queue
submits : (items : List PartOf) (views : List View) (by : ℕ) (b b' : BinOfFrame) (p q n : ℕ) → Running items views b' q n → get_elem? views by ≡ some (submitter b p)
    → (by ≡ 0) × Running items views b q n × (q + n ≡ p)
submits items views by b b' p q n run at =
    let f : (by ≡ 0) × (submitter b p ≡ submitter b' (q + n)) = run.fit by (submitter b p) at in
    let l : b' ≡ b = sym (ap (λ (v : View). v.of) f.1) in
    (f.0, subst (λ (z : BinOfFrame). Running items views z q n) l run, sym (ap (λ (v : View). v.number) f.1))

-- what the task's says
takes : (items : List PartOf) (views : List View) (by : ℕ) (b b' : BinOfFrame) (k t q n : ℕ) → Running items views b' q n → get_elem? views by ≡ some (taker b k t)
    → (by ≡ 1) × Running items views b k n × (t ≤ k + n)
takes items views by b b' k t q n run at =
    let f : (by ≡ 1) × (taker b k t ≡ taker b' q t) × (t ≤ q + n) = run.fit by (taker b k t) at in
    let l : b' ≡ b = sym (ap (λ (v : View). v.of) f.1) in
    let m : q ≡ k = sym (ap (λ (v : View). v.number) f.1) in
    (f.0, subst (λ (z : BinOfFrame × ℕ). Running items views z.0 z.1 n) (λ i. (l i, m i)) run, subst (λ z. t ≤ z + n) m f.2)

-- and what a note says
notes : (items : List PartOf) (views : List View) (by : ℕ) (b b' : BinOfFrame) (p q n : ℕ) → Running items views b' q n → get_elem? views by ≡ some (note b p) → p ≤ q + n
notes items views by b b' p q n run at = let f : (note b p ≡ note b' p) × (p ≤ q + n) = run.fit by (note b p) at in f.1

is_named : (by : ℕ) (b : BinOfFrame) → by ≡ 0 → Forks QueueRule by nameless (submitter b 0) (taker b 0 0)
is_named by b zero_is items views kept at =
    ⊎_elim
    (λ (n : (items ≡ []) × (views ≡ nameless ∷ [])). running b 0 0 zero-le n.0 (λ j u f. two j u (subst (λ (z : List View × ℕ). get_elem? (set z.0 z.1 (submitter b 0) ++ taker b 0 0 ∷ []) j ≡ some u) (λ i. (n.1 i, zero_is i)) f)))
    (λ (r : (b : BinOfFrame) × (q : ℕ) × (n : ℕ) × Running items views b q n). absurd (r.3.fit by nameless at))
    kept
  where
    two : (j : ℕ) (u : View) → get_elem? (submitter b 0 ∷ taker b 0 0 ∷ []) j ≡ some u → Fits b 0 0 j u
    two zero u f = subst (Fits b 0 0 0) (some-injective _ _ f) (refl, refl)
    two (suc zero) u f = subst (Fits b 0 0 1) (some-injective _ _ f) (refl, refl, le_refl 0)
    two (suc (suc j)) u f = absurd (some-ne-none u (sym f))

pushes : (room by : ℕ) (b : BinOfFrame) (p : ℕ) (x : PartOf) → p < batches_in b.frame → x ≡ nth_part b p → Pushes QueueRule room by (submitter b p) x (Pushed (submitter b p) x)
pushes room by b p x lt is items views short kept at =
    named items views by (submitter b p) (λ z. z) at kept
    (λ b' q n run.
    let s = submits items views by b b' p q n run at in
    let w = submitter b (p + 1) in
    let e : q + suc n ≡ p + 1 = let h : q + n ≡ p = s.2 in omega arith in (
      w,
      running b q (suc n) (let h : q + n ≡ p = s.2 in omega arith)
          (ap (λ l. l ++ x ∷ []) s.1.holds ∙ ap (λ z. parts_from b q n ++ z ∷ []) (is ∙ ap (nth_part b) (sym s.2)) ∙ parts_more b q n)
          (fits_set b q (suc n) views by w
          (λ j u ne f. more_as u.role b q n j u (λ z. ne (z ∙ sym s.0)) (s.1.fit j u f))
          (s.0, ap (submitter b) (sym e))),
      refl,
    ))

most : (by : ℕ) (b : BinOfFrame) (p : ℕ) → Learns QueueRule by (submitter b p) (AtMost (submitter b p))
most by b p items views kept at =
    named items views by (submitter b p) (λ z. z) at kept
    (λ b' q n run.
    let s = submits items views by b b' p q n run at in
    let e : length items ≡ n = ap length s.1.holds ∙ length_parts b q n in
    let h : q + n ≡ p = s.2 in omega arith)

popped : (by : ℕ) (b : BinOfFrame) (k t : ℕ) (x : PartOf) (items : List PartOf) (views : List View) (n : ℕ) → by ≡ 1 → t ≤ k + n → Running (x ∷ items) views b k n
    → (w : View) × QueueRule items (set views by w) × Popped (taker b k t) x w
popped by b k t x items views zero one told run = absurd (let e : suc (length items) ≡ 0 = ap length run.holds in omega arith)
popped by b k t x items views (suc n) one told run =
    let w = taker b (k + 1) t in
    let first : x ≡ nth_part b k = ap (head_of x) run.holds in
    let rest : items ≡ parts_from b (suc k) n = ap tail_of run.holds in
    let s : suc k ≡ k + 1 = omega arith in
    let lt : k < batches_in b.frame = let h : k + suc n ≤ batches_in b.frame = run.within in omega arith in (
      w,
      running b (suc k) n (let h : k + suc n ≤ batches_in b.frame = run.within in omega arith) rest
          (fits_set b (suc k) n views by w
          (λ j u ne f. over_as u.role b k n j u (λ z. ne (z ∙ sym one)) (run.fit j u f))
          (one, ap (λ i. taker b i t) (sym s), omega arith)),
      record { view = refl; next = first; short = lt },
    )

pops : (by : ℕ) (b : BinOfFrame) (k t : ℕ) → Pops QueueRule by (taker b k t) (Popped (taker b k t))
pops by b k t x items views kept at =
    named (x ∷ items) views by (taker b k t) (λ z. z) at kept
    (λ b' q n run. let s = takes (x ∷ items) views by b b' k t q n run at in popped by b k t x items views n s.0 s.2 s.1)

told : (by : ℕ) (b : BinOfFrame) (k t : ℕ) → Learns QueueRule by (taker b k t) (Told (taker b k t))
told by b k t items views kept at =
    named items views by (taker b k t) (λ z. z) at kept
    (λ b' q n run.
    let s = takes items views by b b' k t q n run at in
    let e : length items ≡ n = ap length s.1.holds ∙ length_parts b k n in
    subst (λ z. t ≤ k + z) (sym e) s.2)

tells : (by : ℕ) (b : BinOfFrame) (p : ℕ) → Forks QueueRule by (submitter b p) (submitter b p) (note b p)
tells by b p items views kept at =
    named items views by (submitter b p) (λ z. z) at kept
    (λ b' q n run.
    let s = submits items views by b b' p q n run at in
    let w = submitter b p in
    let old = fits_set b q n views by w (λ j u ne f. s.1.fit j u f) (s.0, ap (submitter b) (sym s.2)) in
    running b q n s.1.within s.1.holds
    (λ j u f. ⊎_elim (λ was. old j u was) (λ (same : note b p ≡ u). subst (Fits b q n j) same (refl, subst (λ z. z ≤ q + n) s.2 (le_refl (q + n)))) (at_snoc (set views by w) (note b p) u j f)))

least : (a b k : ℕ) → a ≤ k → b ≤ k → max a b ≤ k
least a b k p q = omega arith

-- the other's view is one of those before
other_at : (views : List View) (by other : ℕ) (w u : View) → ¬ (other ≡ by) → get_elem? (set views by w) other ≡ some u → get_elem? views other ≡ some u
other_at views by other w u ne e = ⊎_elim (λ (t : (other ≡ by) × (w ≡ u)). absurd (ne t.0)) (λ (t : (other ≢ by) × (get_elem? views other ≡ some u)). t.1) (at_set views by other w u e)

-- the rule tells that the note is of the task's bin
hears : (by : ℕ) (b : BinOfFrame) (k t other : ℕ) (c : BinOfFrame) (p : ℕ) → Merges QueueRule by (taker b k t) other (note c p) (told_by (taker b k t) (note c p)) spent
hears by b k t other c p items views kept at apart there =
    named items views by (taker b k t) (λ z. z) at kept
    (λ b' q n run.
    let s = takes items views by b b' k t q n run at in
    let w = told_by (taker b k t) (note c p) in
    let o = notes items views other c b p k n s.1 (other_at views by other w (note c p) apart there) in
    running b k n s.1.within s.1.holds
    (fits_set b k n (set views by w) other spent
    (λ j u _ e. fits_set b k n views by w (λ i y _ f. s.1.fit i y f) (s.0, refl, least t p (k + n) s.2 o) j u e) tt))

-- the same at a view of which only the role is known
pub named_as : (by : ℕ) (v : View) (b : BinOfFrame) → by ≡ 0 → v ≡ nameless → Forks QueueRule by v (submitter b 0) (taker b 0 0)
named_as by v b z is = subst (λ (u : View). Forks QueueRule by u (submitter b 0) (taker b 0 0)) (sym is) (is_named by b z)

pub pushes_as : (room by : ℕ) (v : View) (x : PartOf) → IsSubmitter v → v.number < batches_in v.of.frame → x ≡ nth_part v.of v.number → Pushes QueueRule room by v x (Pushed v x)
pushes_as room by v x is lt next = subst (λ (u : View). Pushes QueueRule room by u x (Pushed u x)) (sym is) (pushes room by v.of v.number x lt next)

pub most_as : (by : ℕ) (v : View) → IsSubmitter v → Learns QueueRule by v (AtMost v)
most_as by v is = subst (λ (u : View). Learns QueueRule by u (AtMost u)) (sym is) (most by v.of v.number)

pub pops_as : (by : ℕ) (v : View) → IsTaker v → Pops QueueRule by v (Popped v)
pops_as by v is = subst (λ (u : View). Pops QueueRule by u (Popped u)) (sym is) (pops by v.of v.number v.told)

pub told_as : (by : ℕ) (v : View) → IsTaker v → Learns QueueRule by v (Told v)
told_as by v is = subst (λ (u : View). Learns QueueRule by u (Told u)) (sym is) (told by v.of v.number v.told)

pub tells_as : (by : ℕ) (v : View) → IsSubmitter v → Forks QueueRule by v v (note v.of v.number)
tells_as by v is = subst (λ (u : View). Forks QueueRule by u u (note u.of u.number)) (sym is) (tells by v.of v.number)

pub hears_as : (by : ℕ) (v : View) (other : ℕ) (w : View) → IsTaker v → IsNote w → Merges QueueRule by v other w (told_by v w) spent
hears_as by v other w iv iw =
    subst (λ (z : View × View). Merges QueueRule by z.0 other z.1 (told_by z.0 z.1) spent) (λ i. (sym iv i, sym iw i)) (hears by v.of v.number v.told other w.of w.number)
