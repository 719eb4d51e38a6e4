-- What reading takes from a source.
use Rattle.std.specs.Prelude.{ℕ, ℤ, ◌≡◌, ◌+◌, ◌-◌, ◌*◌, ◌<◌, ◌≤◌, ◌⊎◌, ◌==◌, if◌then◌else◌, List, [], ◌∷◌, ◌++◌, length, map, take, drop, min}
use Rattle.std.specs.Prelude.{Option, None, Some, option_map, IfSome, Result, IfErr, IsErrOf, OnOk}
use Rattle.std.specs.List.{All}
use Rattle.std.specs.Option.{option_or}
use Rattle.cull_base.specs.Stream.{SourceSays, IsAtEnd, Rose, Takes, TakesInTurns}
use Rattle.cull_base.specs.declared.scene_types.Object.{Object}
use Rattle.scene_reader.specs.declared.header.Header.{Header}
use Rattle.scene_reader.specs.declared.header.Counts.{Counts}
use Rattle.scene_reader.specs.declared.batches.Batches.{Batches}
use Rattle.scene_reader.specs.declared.objects.Objects.{Objects}
use Rattle.scene_reader.specs.Header.{IsHeaderOf}
use Rattle.scene_reader.specs.Layout.{Parts, IsScene, layout, IsObject, raw_object, raw_batch, winding_code}
use Rattle.scene_reader.specs.Length.{header_length, scene_length}
use Rattle.scene_reader.specs.Fault.{IsRefusal, entries, raw_of, raw_batch_of, row_of, tri_of, word_at, batches_told, triangles_in}
use Rattle.scene_reader.specs.Fault.{fault_if, is_bad_batch, batch_fault, batches_fault}
use Rattle.scene_reader.specs.Fault.{first_among, object_fault, first_fault, header_fault, header_taken}
use Rattle.scene_reader.specs.declared.error.SceneError.{SceneError}
use Rattle.scene_reader.specs.declared.error.SceneError.TheVariants.{Truncated, Trailing, BadBatch, Read}

-- ---- a part of a source: the first bytes that are left, of so many; a source that is read to its end has no such number

-- so many bytes are no more than the part has
abbrev pub IsWithin : Option ℕ → ℕ → Type 0
IsWithin part n = IfSome part (λ most. n ≤ most)

-- with so many bytes taken none are to come: they are the part, or the source is at its end
abbrev pub IsDone : Option ℕ → ℕ → Option (List ℕ) → Type 0
IsDone part n after = IsAtEnd after ⊎ (part ≡ Some n)

-- what is left of a part behind so many bytes
abbrev pub less : Option ℕ → ℕ → Option ℕ
less part n = option_map (λ most. most - n) part

-- the bytes of the part, where they are told
abbrev pub front_of : Option ℕ → Option (List ℕ) → Option (List ℕ)
front_of None left = left
front_of (Some most) left = option_map (take most) left

-- ---- what a call takes

-- the end came before so many bytes, and the answer has what is needed and what there was, with what was taken before
pub record EndsWithin (part : Option ℕ) (wanted need taken : ℕ) (before after : SourceSays) (e : SceneError) : Type 0 where
  pub bytes : List ℕ
  pub takes : Takes before.left after.left bytes
  pub few : length bytes < wanted
  pub within : IsWithin part (taken + length bytes)
  pub ended : IsDone part (taken + length bytes) after.left
  pub truncated : e ≡ Truncated need (taken + length bytes)

-- What a call that reads owes after every answer, where so many bytes of the part were taken before: no more than so many bytes are taken, and none behind the part,
-- in no more turns than the part had bytes left. Read comes only where the source failed.
pub record Reads {T : Type 0} (part : Option ℕ) (taken most : ℕ) (before after : SourceSays) (result : Result T SceneError) : Type 0 where
  pub read : IsErrOf result Read → Rose before.faults after.faults
  pub faults_stay : before.faults ≤ after.faults
  pub turns : after.turns ≤ before.turns + most
  pub takes : TakesInTurns most before after
  pub within : IsWithin part (taken + length takes.bytes)
  pub asked : IsWithin part (taken + (after.turns - before.turns))

-- the same of a call that wants so many bytes, and answers Truncated where the end comes before them
pub record Fetches {T : Type 0} (part : Option ℕ) (wanted need taken : ℕ) (before after : SourceSays) (result : Result T SceneError) : Type 0 where
  pub short : IfErr result (λ e. IsRefusal e → EndsWithin part wanted need taken before after e)
  pub reads : Reads part taken wanted before after result
  pub within : OnOk result (IsWithin part (taken + wanted))

-- the same of the tables behind a header of some version
abbrev pub FetchesTables : {T : Type 0} → Option ℕ → ℕ → Counts → SourceSays → SourceSays → Result T SceneError → Type 0
FetchesTables part version n before after result =
    Fetches part (scene_length version n - header_length version) (scene_length version n) (header_length version) before after result

-- the number of batches of a header was taken: four bytes in version 2, none in version 1, which has no table of them
pub record TakesCount (version batches : ℕ) (before after : SourceSays) : Type 0 where
  pub bytes : List ℕ
  pub takes : Takes before.left after.left bytes
  pub whole : 32 + length bytes ≡ header_length version
  pub says : batches ≡ (if version == 1 then 0 else word_at 0 bytes)
  pub faults_stay : before.faults ≤ after.faults
  pub turns : after.turns ≤ before.turns + length bytes

-- a whole header was taken, in as many turns as it has bytes at most
pub record TakesHeader (before after : SourceSays) (h : Header) : Type 0 where
  pub bytes : List ℕ
  pub takes : Takes before.left after.left bytes
  pub whole : length bytes ≡ header_length h.version
  pub says : IsHeaderOf bytes h
  pub faults_stay : before.faults ≤ after.faults
  pub turns : after.turns ≤ before.turns + header_length h.version

-- a table was taken: so many entries of so many bytes each, every one read as an item
pub record TakesTable {X : Type 0} (size count : ℕ) (read : List ℕ → X) (before after : SourceSays) (items : List X) : Type 0 where
  pub bytes : List ℕ
  pub takes : Takes before.left after.left bytes
  pub whole : length bytes ≡ size * count
  pub each : items ≡ map read (entries size count bytes)

-- one entry more of a table of batches: the batch, or its fault where there was none before
pub record TakesBatch (tris i : ℕ) (raw : ℕ × ℕ) (before after : Batches) : Type 0 where
  pub first : after.fault ≡ option_or before.fault (fault_if (is_bad_batch tris before.counted raw) (BadBatch i))
  pub items : after.fault ≡ None → map raw_batch after.items.items ≡ map raw_batch before.items.items ++ raw ∷ []
  pub counted : after.fault ≡ None → after.counted ≡ before.counted + raw.0
  pub within : after.counted ≤ tris

-- the batches of a table up to its first fault, how many triangles they have, and that fault
pub record TakesBatchTable (count tris : ℕ) (before after : SourceSays) (batches : Batches) : Type 0 where
  pub raws : List (ℕ × ℕ)
  pub table : TakesTable 5 count raw_batch_of before after raws
  pub first : batches.fault ≡ first_among (batch_fault tris raws) 0 raws
  pub whole : batches.fault ≡ None → map raw_batch batches.items.items ≡ raws
  pub counted : batches.fault ≡ None → batches.counted ≡ triangles_in raws
  pub within : batches.counted ≤ tris

-- the batches of a header's scene, whose table has these
abbrev pub batches_of : Header → List (ℕ × ℕ) → List (ℕ × ℕ)
batches_of h stored = batches_told h.version (winding_code h.flags.winding) h.counts.occluders stored

-- the batches of a header's scene: the table was taken that it announces, and its first fault is kept
pub record TakesBatches (h : Header) (before after : SourceSays) (batches : Batches) : Type 0 where
  pub stored : List (ℕ × ℕ)
  pub table : TakesTable 5 h.counts.batches raw_batch_of before after stored
  pub first : batches.fault ≡ batches_fault h.version h.counts.occluders (batches_of h stored)
  pub whole : batches.fault ≡ None → map raw_batch batches.items.items ≡ batches_of h stored

-- an object whose entry has no fault
abbrev pub IsObjectOf : ℕ → ℕ → ℕ × List ℤ → Object → Type 0
IsObjectOf object_tris i raw o = (object_fault object_tris i raw ≡ None) × (raw_object o ≡ raw)

-- one entry more of a table of objects: the object, or its fault where there was none before
pub record TakesObject (object_tris i : ℕ) (raw : ℕ × List ℤ) (before after : Objects) : Type 0 where
  pub first : after.fault ≡ option_or before.fault (object_fault object_tris i raw)
  pub items : after.fault ≡ None → map raw_object after.items.items ≡ map raw_object before.items.items ++ raw ∷ []
  pub valid : All (IsObject object_tris) before.items.items → All (IsObject object_tris) after.items.items

-- the objects of a table up to its first fault, and that fault
pub record TakesObjects (count object_tris : ℕ) (before after : SourceSays) (objects : Objects) : Type 0 where
  pub raws : List (ℕ × List ℤ)
  pub table : TakesTable 25 count raw_of before after raws
  pub first : objects.fault ≡ first_among (object_fault object_tris) 0 raws
  pub whole : objects.fault ≡ None → map raw_object objects.items.items ≡ raws
  pub valid : All (IsObject object_tris) objects.items.items

-- the end came behind so many bytes, where it was wanted
abbrev pub TakesEnd : Option ℕ → ℕ → SourceSays → SourceSays → Type 0
TakesEnd part taken before after = Takes before.left after.left [] × IsDone part taken after.left

-- more bytes came where the end was wanted
pub record IsTrailing (part : Option ℕ) (taken : ℕ) (before after : SourceSays) (e : SceneError) : Type 0 where
  pub trailing : e ≡ Trailing
  pub bytes : List ℕ
  pub takes : Takes before.left after.left bytes
  pub some : 0 < length bytes
  pub within : IsWithin part (taken + length bytes)

-- bytes that are a table, every entry of so many bytes
pub record IsTable {X : Type 0} (size count : ℕ) (read : List ℕ → X) (bytes : List ℕ) (items : List X) : Type 0 where
  pub whole : length bytes ≡ size * count
  pub each : items ≡ map read (entries size count bytes)

-- the tables behind a header were taken, with the first faults among the batches and among the objects
pub record TakesParts (h : Header) (before after : SourceSays) (p : Parts) (batches_at objects_at : Option SceneError) : Type 0 where
  pub vertex_bytes : List ℕ
  pub occluder_bytes : List ℕ
  pub batch_bytes : List ℕ
  pub object_tri_bytes : List ℕ
  pub object_bytes : List ℕ
  pub camera_bytes : List ℕ
  pub stored : List (ℕ × ℕ)
  pub raws : List (ℕ × List ℤ)
  pub takes : Takes before.left after.left (vertex_bytes ++ (occluder_bytes ++ (batch_bytes ++ (object_tri_bytes ++ (object_bytes ++ camera_bytes)))))
  pub vertices : IsTable 12 h.counts.vertices (row_of 3) vertex_bytes p.vertices
  pub occluders : IsTable 12 h.counts.occluders tri_of occluder_bytes p.occluders
  pub batches : IsTable 5 h.counts.batches raw_batch_of batch_bytes stored
  pub object_tris : IsTable 12 h.counts.object_tris tri_of object_tri_bytes p.object_tris
  pub objects : IsTable 25 h.counts.objects raw_of object_bytes raws
  pub cameras : IsTable 48 h.counts.frames (row_of 12) camera_bytes p.cameras
  pub batches_first : batches_at ≡ batches_fault h.version h.counts.occluders (batches_of h stored)
  pub batches_whole : batches_at ≡ None → map raw_batch p.batches ≡ batches_of h stored
  pub first : objects_at ≡ first_among (object_fault h.counts.object_tris) 0 raws
  pub whole : objects_at ≡ None → map raw_object p.objects ≡ raws
  pub valid : All (IsObject h.counts.object_tris) p.objects
  pub header : (p.version ≡ h.version) × (p.width ≡ h.width) × (p.height ≡ h.height) × (p.near ≡ h.near) × (p.grade ≡ h.flags.grade)

-- an error is the first fault of the bytes, where they are told; of a header that is refused nothing behind it is taken
abbrev pub Refuses : Option (List ℕ) → Option (List ℕ) → SceneError → Type 0
Refuses before after e =
    IfSome before (λ bytes. (first_fault bytes ≡ Some e) × (header_fault bytes ≡ Some e → after ≡ Some (drop (header_taken bytes) bytes)))

-- the scene's layout was taken, and nothing is left
pub record ReadsScene (before after : Option (List ℕ)) (s : Parts) : Type 0 where
  pub bytes : List ℕ
  pub takes : Takes before after bytes
  pub ended : IsAtEnd after
  pub scene : IsScene s
  pub whole : bytes ≡ layout s
  pub first : first_fault bytes ≡ None

-- ---- the same of a part

-- so many bytes of the part were taken: these
pub record TakesOf (part : Option ℕ) (before after : Option (List ℕ)) (count : ℕ) : Type 0 where
  pub bytes : List ℕ
  pub takes : Takes before after bytes
  pub whole : length bytes ≡ count
  pub within : IsWithin part count

-- an error is the first fault of the part's bytes
pub record RefusesPart (part : Option ℕ) (before after : Option (List ℕ)) (e : SceneError) : Type 0 where
  pub count : ℕ
  pub taken : TakesOf part before after count
  pub refuses : Refuses (front_of part before) (front_of (less part count) after) e

-- the part was the scene's layout
pub record ReadsPart (part : Option ℕ) (before after : Option (List ℕ)) (s : Parts) : Type 0 where
  pub count : ℕ
  pub taken : TakesOf part before after count
  pub reads : ReadsScene (front_of part before) (front_of (less part count) after) s

-- ---- what the bytes were, where they are told

-- what a source would say if it had its first n bytes alone
abbrev pub first_bytes : ℕ → SourceSays → SourceSays
first_bytes n s = record { left = option_map (take n) s.left; faults = s.faults; turns = s.turns }

-- of the first n bytes this scene's layout, and those behind them are left
abbrev pub TakesPart : ℕ → SourceSays → SourceSays → Parts → Type 0
TakesPart n before after s = IfSome before.left (λ bytes. (take n bytes ≡ layout s) × (after.left ≡ Some (drop n bytes)))

-- no byte behind the first n was taken
abbrev pub TakesWithin : ℕ → SourceSays → SourceSays → Type 0
TakesWithin n before after = IfSome before.left (λ bytes. (count : ℕ) × (count ≤ n) × (after.left ≡ Some (drop count bytes)))

-- where the fault is one of the header of the first n bytes, no more than that was taken
abbrev pub StopsWithin : ℕ → SourceSays → SourceSays → SceneError → Type 0
StopsWithin n before after e =
    IfSome before.left (λ bytes. header_fault (take n bytes) ≡ Some e → after.left ≡ Some (drop (min n (header_taken (take n bytes))) bytes))

-- this scene's layout, and none are left
abbrev pub TakesLayout : SourceSays → SourceSays → Parts → Type 0
TakesLayout before after s = IfSome before.left (λ bytes. (bytes ≡ layout s) × (after.left ≡ Some []))

-- no other scene's layout
abbrev pub IsOnlyScene : SourceSays → Parts → Type 0
IsOnlyScene before s = IfSome before.left (λ bytes. (t : Parts) → IsScene t → bytes ≡ layout t → t ≡ s)

-- no scene's layout
abbrev pub IsNoScene : SourceSays → Type 0
IsNoScene before = IfSome before.left (λ bytes. (t : Parts) → IsScene t → bytes ≡ layout t → ⊥)

-- bytes with this first fault
abbrev pub HasFirstFault : SourceSays → Option SceneError → Type 0
HasFirstFault before fault = IfSome before.left (λ bytes. first_fault bytes ≡ fault)

-- where the fault is one of the header, nothing behind it was taken, and up to the version nothing behind 32 bytes
abbrev pub StopsAtHeader : SourceSays → SourceSays → SceneError → Type 0
StopsAtHeader before after e = IfSome before.left (λ bytes. header_fault bytes ≡ Some e → after.left ≡ Some (drop (header_taken bytes) bytes))
