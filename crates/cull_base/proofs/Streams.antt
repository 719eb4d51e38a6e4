-- Appending piece by piece.
use Rattle.std.proofs.Common.{◌≡◌, ℕ, ◌+◌, ◌≤◌, ◌++◌, List, length, take, drop, arith, refl, sym, ap, ◌∙◌, Option, Some, None, Result, Ok, Err, append_assoc}
use Rattle.std.proofs.lemmas.List.{length-append, take-append-le}
use Rattle.std.specs.Option.{option_map}
use Rattle.std.proofs.Math.Seq.{take-add, take-append-add}
use Rattle.cull_base.specs.declared.memory.SinkError.{SinkError}
use Rattle.cull_base.specs.Stream.{SinkSays, Appends, AppendsProperPrefix, Rose, Writes}

pub appends_then : (before between after : SinkSays) (a b : List ℕ) → Appends before between a → Appends between after b → Appends before after (a ++ b)
appends_then before between after a b e f = f ∙ ap (option_map (λ (held : List ℕ). held ++ b)) e ∙ joined before.holding
  where
    joined : (held : Option (List ℕ)) → option_map (λ (h : List ℕ). h ++ b) (option_map (λ (h : List ℕ). h ++ a) held) ≡ option_map (λ (h : List ℕ). h ++ (a ++ b)) held
    joined None = refl
    joined (Some h) = ap Some (append_assoc h a b)

-- a front of a piece, and then a front of what is left of it
pub appends_more : (before between after : SinkSays) (piece rest : List ℕ) (x n : ℕ) → rest ≡ drop x piece
    → Appends before between (take x piece) → Appends between after (take n rest) → Appends before after (take (x + n) piece)
appends_more before between after piece rest x n is e f =
    let both = appends_then before between after (take x piece) (take n rest) e f in
    let whole : take (x + n) piece ≡ take x piece ++ take n rest = take-add x n piece ∙ ap (λ (r : List ℕ). take x piece ++ take n r) (sym is) in
    rw whole both

proper_then : (s0 s1 s2 : SinkSays) (a b : List ℕ) → Appends s0 s1 a → AppendsProperPrefix s1 s2 b → AppendsProperPrefix s0 s2 (a ++ b)
proper_then s0 s1 s2 a b e (n, lt, f) = (length a + n, omega (arith, length-append a b), rw (take-append-add a b n) (appends_then s0 s1 s2 a (take n b) e f))

rose_later : (a b c : ℕ) → a ≤ b → Rose b c → Rose a c
rose_later a b c le r = omega arith

-- a text was written whole, and then another call wrote
pub writes_then : (s0 s1 s2 : SinkSays) (r : Result (Unit {0}) SinkError) (a b : List ℕ) → Appends s0 s1 a → s0.faults ≤ s1.faults → s0.refusals ≤ s1.refusals → Writes s1 s2 r b → Writes s0 s2 r (a ++ b)
writes_then s0 s1 s2 (Ok x) a b e f g w = record {
  ok = appends_then s0 s1 s2 a b e w.ok;
  err = w.err;
  failed = λ h. rose_later _ _ _ f (w.failed h);
  memory = λ h. rose_later _ _ _ g (w.memory h);
  faults_stay = omega (arith, w.faults_stay);
  refusals_stay = omega (arith, w.refusals_stay);
}
writes_then s0 s1 s2 (Err x) a b e f g w = record {
  ok = w.ok;
  err = proper_then s0 s1 s2 a b e w.err;
  failed = λ h. rose_later _ _ _ f (w.failed h);
  memory = λ h. rose_later _ _ _ g (w.memory h);
  faults_stay = omega (arith, w.faults_stay);
  refusals_stay = omega (arith, w.refusals_stay);
}

-- a call that failed wrote no more of a longer text
pub writes_no_more : (s0 s1 : SinkSays) (e : SinkError) (a b : List ℕ) → Writes s0 s1 (Err e) a → Writes s0 s1 (Err e) (a ++ b)
writes_no_more s0 s1 e a b w = let (n, lt, f) = w.err in record {
  ok = w.ok;
  err = (n, omega (arith, length-append a b), rw (take-append-le n a b (omega arith)) f);
  failed = w.failed;
  memory = w.memory;
  faults_stay = w.faults_stay;
  refusals_stay = w.refusals_stay;
}
