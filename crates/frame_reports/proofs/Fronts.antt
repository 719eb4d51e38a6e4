-- Texts on sinks, and beginnings of texts.
use Rattle.std.proofs.Common.{◌≡◌, ℕ, ◌+◌, ◌≤◌, ◌++◌, List, [], length, take, Option, Some, None, arith, refl, ap, sym}
use Rattle.std.specs.Option.{option_map}
use Rattle.std.proofs.lemmas.List.{append-nil, length-append, take-append-le}
use Rattle.std.proofs.Math.Seq.{take-append-add, take-length}
use Rattle.cull_base.specs.Stream.{SinkSays, Appends, AppendsPrefix, Rose}
use Rattle.cull_base.proofs.Streams.{appends_then}

pub nothing_appended : (says : SinkSays) → Appends says says []
nothing_appended says = by says.holding
  where
    by : (held : Option (List ℕ)) → held ≡ option_map (λ (h : List ℕ). h ++ []) held
    by None = refl
    by (Some h) = ap Some (sym (append-nil h))

-- a whole text is a beginning of itself
pub all_is_front : (s0 s1 : SinkSays) (a : List ℕ) → Appends s0 s1 a → AppendsPrefix s0 s1 a
all_is_front s0 s1 a h = (length a, omega arith, rw (take-length a) h)

-- a beginning is one of a longer text
pub front_of_more : (s0 s1 : SinkSays) (a b : List ℕ) → AppendsPrefix s0 s1 a → AppendsPrefix s0 s1 (a ++ b)
front_of_more s0 s1 a b (n, le, h) = (n, omega (arith, length-append a b), rw (take-append-le n a b le) h)

-- a beginning after a whole text
pub front_then : (s0 s1 s2 : SinkSays) (a b : List ℕ) → Appends s0 s1 a → AppendsPrefix s1 s2 b → AppendsPrefix s0 s2 (a ++ b)
front_then s0 s1 s2 a b h (n, le, f) = (length a + n, omega (arith, length-append a b), rw (take-append-add a b n) (appends_then s0 s1 s2 a (take n b) h f))

-- a count that rose later rose
pub rose_later : (a b c : ℕ) → a ≤ b → Rose b c → Rose a c
rose_later a b c le h = let x : Rose a c = omega (arith, h, le) in x
