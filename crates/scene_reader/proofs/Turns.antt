-- Calls that read, one after the other: what was taken of a part, and in how many turns.
use Rattle.std.proofs.Common.{◌≡◌, ℕ, ◌+◌, ◌-◌, ◌*◌, ◌≤◌, ◌++◌, List, length, arith, Option, Result, Ok, Err}
use Rattle.std.specs.Prelude.{IsErrOf}
use Rattle.std.proofs.lemmas.List.{length-append}
use Rattle.cull_base.specs.Stream.{Rose, SourceSays, Takes, TakesInTurns}
use Rattle.cull_base.proofs.Takes.{takes_then}
use Rattle.cull_base.proofs.Turns.{Progress, progress_then}
use Rattle.scene_reader.specs.declared.error.SceneError.{SceneError}
use Rattle.scene_reader.specs.declared.error.SceneError.TheVariants.{Read, Memory}
use Rattle.scene_reader.specs.declared.header.Header.{Header}
use Rattle.scene_reader.specs.declared.header.Counts.{Counts}
use Rattle.scene_reader.specs.Layout.{Parts}
use Rattle.scene_reader.specs.Length.{header_length, scene_length, greatest_length}
use Rattle.scene_reader.specs.Header.{AreCounts}
use Rattle.scene_reader.specs.Reading.{IsWithin, Reads, Fetches, FetchesTables, TakesTable, TakesHeader, TakesParts}
use Rattle.scene_reader.proofs.Takes.{ends_later, ends_wider, within_less}
use Rattle.scene_reader.proofs.Headers.{length_within}

-- what a call took that was not short
pub progress_of : {T : Type 0} {part : Option ℕ} {taken : ℕ} {a b : SourceSays} {r : Result T SceneError} {n : ℕ} (x : List ℕ) → length x ≡ n → Takes a.left b.left x → Reads part taken n a b r → Progress n a b
progress_of x len t r = record { bytes = x; takes = t; count = len; faults = r.faults_stay; turns = r.turns }

pub progress_table : {X : Type 0} {size i : ℕ} {read : List ℕ → X} {a b : SourceSays} {items : List X} → TakesTable size i read a b items → a.faults ≤ b.faults → b.turns ≤ a.turns + size * i → Progress (size * i) a b
progress_table t faults turns = record { bytes = t.bytes; takes = t.takes; count = t.whole; faults = faults; turns = turns }

table_read : {X T : Type 0} {part : Option ℕ} {size count need taken : ℕ} {read : List ℕ → X} {a b : SourceSays} {items : List X} {t : T} → TakesTable size count read a b items → Fetches part (size * count) need taken a b (Ok t) → Progress (size * count) a b
table_read t f = progress_table t f.reads.faults_stay f.reads.turns

pub then_table : {X T : Type 0} {part : Option ℕ} {n size count need taken : ℕ} {read : List ℕ → X} {a b c : SourceSays} {items : List X} {t : T} → Progress n a b → TakesTable size count read b c items → Fetches part (size * count) need taken b c (Ok t) → Progress (n + size * count) a c
then_table p t f = progress_then p (table_read t f)

pub header_read : {h : Header} {a b : SourceSays} → TakesHeader a b h → Progress (header_length h.version) a b
header_read t = record { bytes = t.bytes; takes = t.takes; count = t.whole; faults = t.faults_stay; turns = t.turns }

pub parts_read : {T : Type 0} {part : Option ℕ} {h : Header} {a b : SourceSays} {p : Parts} {batches objects : Option SceneError} {t : T} → TakesParts h a b p batches objects → FetchesTables part h.version h.counts a b (Ok t) → Progress (scene_length h.version h.counts - header_length h.version) a b
parts_read t f =
    let v = t.vertex_bytes in let o = t.occluder_bytes in let k = t.batch_bytes in let m = t.object_tri_bytes in let j = t.object_bytes in let c = t.camera_bytes in
    record {
      bytes = v ++ (o ++ (k ++ (m ++ (j ++ c))));
      takes = t.takes;
      count = omega (arith, length-append v (o ++ (k ++ (m ++ (j ++ c)))), length-append o (k ++ (m ++ (j ++ c))), length-append k (m ++ (j ++ c)), length-append m (j ++ c), length-append j c, t.vertices.whole, t.occluders.whole, t.batches.whole, t.object_tris.whole, t.objects.whole, t.cameras.whole);
      faults = f.reads.faults_stay;
      turns = f.reads.turns;
    }

-- the header, the tables and one turn more
pub most_turns : (version : ℕ) (n : Counts) → AreCounts n → header_length version + (scene_length version n - header_length version) + 1 ≤ greatest_length + 1
most_turns version n h = omega (arith, length_within version, h.few_frames, h.few_vertices, h.few_occluders, h.few_batches, h.few_object_tris, h.few_objects)

-- ---- what a call owes after others that took what they wanted

-- it was called where so many bytes had been taken
pub reads_then : {T U : Type 0} {part : Option ℕ} {taken later n m most : ℕ} {a b c : SourceSays} {r : Result T SceneError} {q : Result U SceneError} → Progress n a b → n + m ≤ most → taken + n ≡ later
    → (IsErrOf q Read → IsErrOf r Read) → Reads part later m b c r → Reads part taken most a c q
reads_then {T} {U} {part} {taken} {later} {n} {m} {most} {a} {b} {c} p le is same r = record {
  read = λ h. let rose = r.read (same h) in omega (arith, p.faults, rose);
  faults_stay = omega (arith, p.faults, r.faults_stay);
  turns = omega (arith, p.turns, r.turns, le);
  takes = record {
    bytes = p.bytes ++ r.takes.bytes;
    takes = takes_then a.left b.left c.left p.bytes r.takes.bytes p.takes r.takes.takes;
    few = omega (arith, length-append p.bytes r.takes.bytes, p.count, r.takes.few, le);
    turns = omega (arith, length-append p.bytes r.takes.bytes, p.count, p.turns, r.takes.turns);
  };
  within = within_less part (later + length r.takes.bytes) (taken + length (p.bytes ++ r.takes.bytes)) (omega (arith, length-append p.bytes r.takes.bytes, p.count, is)) r.within;
  asked = within_less part (later + (c.turns - b.turns)) (taken + (c.turns - a.turns)) (omega (arith, p.turns, is)) r.asked;
}

pub reads_failed : {T U : Type 0} {part : Option ℕ} {taken later n m most : ℕ} {a b c : SourceSays} {e : SceneError} → Progress n a b → n + m ≤ most → taken + n ≡ later
    → Reads {T = T} part later m b c (Err e) → Reads {T = U} part taken most a c (Err e)
reads_failed p le is r = reads_then p le is (λ h. cc) r

-- nothing more was read, and it isn't a fault of the source
pub reads_whole : {U : Type 0} {part : Option ℕ} {taken n most : ℕ} {a b : SourceSays} {q : Result U SceneError} → Progress n a b → n ≤ most → (IsErrOf q Read → ⊥) → IsWithin part (taken + n) → Reads part taken most a b q
reads_whole {U} {part} {taken} {n} {most} {a} {b} p le none w = record {
  read = λ h. absurd (none h);
  faults_stay = p.faults;
  turns = omega (arith, p.turns, le);
  takes = record { bytes = p.bytes; takes = p.takes; few = omega (arith, p.count, le); turns = omega (arith, p.turns, p.count) };
  within = within_less part (taken + n) (taken + length p.bytes) (omega (arith, p.count)) w;
  asked = within_less part (taken + n) (taken + (b.turns - a.turns)) (omega (arith, p.turns)) w;
}

pub fetches_failed : {T U : Type 0} {part : Option ℕ} {n m most need taken later : ℕ} {a b c : SourceSays} {e : SceneError} → Progress n a b → n + m ≤ most → taken + n ≡ later
    → Fetches {T = T} part m need later b c (Err e) → Fetches {T = U} part most need taken a c (Err e)
fetches_failed {T} {U} {part} {n} {m} {most} {need} {taken} {later} {a} {b} {c} {e} p le is f = record {
  short = λ refusal. ends_wider part a c (n + m) most need taken e le (ends_later part a b c p.bytes n m need taken later e p.count is p.takes (f.short refusal));
  reads = reads_failed p le is f.reads;
  within = tt;
}

pub fetches_memory : {U : Type 0} {part : Option ℕ} {n most need taken : ℕ} {a b : SourceSays} → Progress n a b → n ≤ most → IsWithin part (taken + n) → Fetches {T = U} part most need taken a b (Err Memory)
fetches_memory p le w = record { short = λ refusal. absurd refusal; reads = reads_whole p le (λ h. cc) w; within = tt }

pub fetches_whole : {U : Type 0} {part : Option ℕ} {n most need taken : ℕ} {a b : SourceSays} {u : U} → Progress n a b → n ≤ most → IsWithin part (taken + most) → Fetches part most need taken a b (Ok u)
fetches_whole {U} {part} {n} {most} {need} {taken} p le w = record {
  short = tt;
  reads = reads_whole p le (λ h. cc) (within_less part (taken + most) (taken + n) (omega (arith, le)) w);
  within = w;
}

-- ---- what a call owes that filled a buffer

pub reads_filled : {T : Type 0} {part : Option ℕ} {taken n : ℕ} {a b : SourceSays} {r : Result T SceneError} → (IsErrOf r Read → Rose a.faults b.faults) → a.faults ≤ b.faults → b.turns ≤ a.turns + n
    → TakesInTurns n a b → IsWithin part (taken + n) → Reads part taken n a b r
reads_filled {T} {part} {taken} {n} {a} {b} {r} rose faults turns t w = record {
  read = rose;
  faults_stay = faults;
  turns = turns;
  takes = t;
  within = within_less part (taken + n) (taken + length t.bytes) (omega (arith, t.few)) w;
  asked = within_less part (taken + n) (taken + (b.turns - a.turns)) (omega (arith, turns)) w;
}
