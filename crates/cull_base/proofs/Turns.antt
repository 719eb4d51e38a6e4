-- Calls that take bytes from a source, one after the other, and in how many turns.
use Rattle.std.proofs.Common.{◌≡◌, ℕ, ◌+◌, ◌≤◌, ◌++◌, List, [], length, arith, refl, sym, subst, Option, Some, None}
use Rattle.std.proofs.lemmas.List.{length-append}
use Rattle.cull_base.specs.Stream.{SourceSays, Takes, TakesFront, TakesInTurns}
use Rattle.cull_base.proofs.Takes.{takes_nothing, takes_then}

-- so many bytes were taken in at most so many turns
pub record Progress (n : ℕ) (before after : SourceSays) : Type 0 where
  pub bytes : List ℕ
  pub takes : Takes before.left after.left bytes
  pub count : length bytes ≡ n
  pub faults : before.faults ≤ after.faults
  pub turns : after.turns ≤ before.turns + n

pub progress_none : (a : SourceSays) → Progress 0 a a
progress_none a = record { bytes = []; takes = takes_nothing a.left; count = refl; faults = omega arith; turns = omega arith }

pub progress_then : {n m : ℕ} {a b c : SourceSays} → Progress n a b → Progress m b c → Progress (n + m) a c
progress_then {n} {m} {a} {b} {c} p q = record {
  bytes = p.bytes ++ q.bytes;
  takes = takes_then a.left b.left c.left p.bytes q.bytes p.takes q.takes;
  count = omega (arith, length-append p.bytes q.bytes, p.count, q.count);
  faults = omega (arith, p.faults, q.faults);
  turns = omega (arith, p.turns, q.turns);
}

-- ---- one turn more than bytes

pub turns_of : {n : ℕ} {a b : SourceSays} → Progress n a b → TakesInTurns n a b
turns_of p = record { bytes = p.bytes; takes = p.takes; few = omega (arith, p.count); turns = omega (arith, p.turns, p.count) }

pub turns_then : {n m : ℕ} {a b c : SourceSays} → Progress n a b → TakesInTurns m b c → TakesInTurns (n + m) a c
turns_then {n} {m} {a} {b} {c} p t = record {
  bytes = p.bytes ++ t.bytes;
  takes = takes_then a.left b.left c.left p.bytes t.bytes p.takes t.takes;
  few = omega (arith, length-append p.bytes t.bytes, p.count, t.few);
  turns = omega (arith, length-append p.bytes t.bytes, p.count, p.turns, t.turns);
}

-- a turn that took nothing
pub turn_without : {n : ℕ} {a b c : SourceSays} → Progress n a b → c.left ≡ b.left → c.turns ≤ b.turns + 1 → TakesInTurns n a c
turn_without {n} {a} {b} {c} p same turn = record {
  bytes = p.bytes;
  takes = subst (λ (o : Option (List ℕ)). Takes a.left o p.bytes) (sym same) p.takes;
  few = omega (arith, p.count);
  turns = omega (arith, p.count, p.turns, turn);
}

pub turns_within : {n m : ℕ} {a b : SourceSays} → n ≤ m → TakesInTurns n a b → TakesInTurns m a b
turns_within le t = record { bytes = t.bytes; takes = t.takes; few = omega (arith, t.few, le); turns = t.turns }

pub none_taken : (before after : Option (List ℕ)) (buffer : List ℕ) → TakesFront before after buffer 0 → after ≡ before
none_taken None after buffer t = t.0
none_taken (Some b) after buffer t = t.0
