-- The text of a live line: its head, its tiles and a newline.
use Rattle.std.proofs.Common.{◌≡◌, ℕ, ◌+◌, ◌<◌, ◌≤◌, List, [], ◌∷◌, ◌++◌, map, length, take, drop, get_or, ap, ◌∙◌, sym, append_assoc}
use Rattle.std.specs.Prelude.{codes}
use Rattle.std.specs.Fmt.{decimal}
use Rattle.std.specs.List.{join_with_byte}
use Rattle.std.proofs.Math.Seq.{take-add}
use Rattle.std.proofs.lemmas.Grind.{flat_map-append}
use Rattle.std.proofs.lemmas.List.{append-nil, take-append-drop, take_all, take_more}
use Rattle.cull_report.specs.declared.live_line.TileCount.{TileCount}
use Rattle.cull_report.specs.Live.{LiveLineOf, count_text, live_line, text_of_line}
use Rattle.cull_report.specs.LivePieces.{head_text, counts_text}
use Rattle.cull_report.specs.Text.{verdict_word}

-- fields and then the fields of tiles
joined : (x : List ℕ) (xs : List (List ℕ)) (counts : List TileCount) → join_with_byte 32 (x ∷ (xs ++ map count_text counts)) ≡ join_with_byte 32 (x ∷ xs) ++ counts_text counts
joined x [] [] = sym (append-nil x)
joined x [] (c ∷ cs) = ap (λ (text : List ℕ). x ++ (32 ∷ text)) (joined (count_text c) [] cs)
joined x (y ∷ ys) counts = ap (λ (text : List ℕ). x ++ (32 ∷ text)) (joined y ys counts) ∙ sym (append_assoc x (32 ∷ join_with_byte 32 (y ∷ ys)) (counts_text counts))

pub line_is : (l : LiveLineOf) → text_of_line l ≡ head_text l ++ (counts_text l.counts ++ 10 ∷ [])
unfolding live_line head_text
line_is l =
    let fields = decimal l.frame ∷ decimal l.round ∷ decimal l.object ∷ verdict_word l.verdict ∷ [] in
    ap (λ (text : List ℕ). text ++ 10 ∷ []) (joined (codes "live") fields l.counts) ∙ append_assoc (join_with_byte 32 (codes "live" ∷ fields)) (counts_text l.counts) (10 ∷ [])

-- some tiles of a list, and one more
pub counts_text-push : (counts : List TileCount) (k : ℕ) (d : TileCount) → k < length counts → counts_text (take (k + 1) counts) ≡ counts_text (take k counts) ++ (32 ∷ count_text (get_or counts k d))
counts_text-push counts k d lt =
    let x = get_or counts k d in
    ap counts_text (take_more counts k d lt) ∙ flat_map-append (λ c. 32 ∷ count_text c) (take k counts) (x ∷ []) ∙ ap (λ (text : List ℕ). counts_text (take k counts) ++ text) (append-nil (32 ∷ count_text x))

-- some tiles of a list, and the next ones
pub counts_text-next : (counts : List TileCount) (k n : ℕ) → counts_text (take (k + n) counts) ≡ counts_text (take k counts) ++ counts_text (take n (drop k counts))
counts_text-next counts k n = ap counts_text (take-add k n counts) ∙ flat_map-append (λ c. 32 ∷ count_text c) (take k counts) (take n (drop k counts))

-- some tiles of a list, and all others
pub counts_text-rest : (counts : List TileCount) (k : ℕ) → counts_text counts ≡ counts_text (take k counts) ++ counts_text (drop k counts)
counts_text-rest counts k = ap counts_text (sym (take-append-drop k counts)) ∙ flat_map-append (λ c. 32 ∷ count_text c) (take k counts) (drop k counts)

-- a front of a line, what is put together after it, and the fields of the next tiles
pub next_front : (head front text : List ℕ) (counts : List TileCount) (k n : ℕ) → front ++ text ≡ head ++ counts_text (take k counts)
    → front ++ (text ++ counts_text (take n (drop k counts))) ≡ head ++ counts_text (take (k + n) counts)
next_front head front text counts k n e =
    let more = counts_text (take n (drop k counts)) in
    sym (append_assoc front text more) ∙ ap (λ (t : List ℕ). t ++ more) e ∙ append_assoc head (counts_text (take k counts)) more ∙ ap (λ (t : List ℕ). head ++ t) (sym (counts_text-next counts k n))

-- the line from there on
pub line_after : (l : LiveLineOf) (front text : List ℕ) (k n : ℕ) → front ++ text ≡ head_text l ++ counts_text (take k l.counts)
    → text_of_line l ≡ front ++ ((text ++ counts_text (take n (drop k l.counts))) ++ (counts_text (drop (k + n) l.counts) ++ 10 ∷ []))
line_after l front text k n e =
    let head = head_text l in
    let done = counts_text (take (k + n) l.counts) in
    let left = counts_text (drop (k + n) l.counts) in
    let piece = text ++ counts_text (take n (drop k l.counts)) in
    line_is l ∙ ap (λ (t : List ℕ). head ++ (t ++ 10 ∷ [])) (counts_text-rest l.counts (k + n)) ∙ ap (λ (t : List ℕ). head ++ t) (append_assoc done left (10 ∷ []))
    ∙ sym (append_assoc head done (left ++ 10 ∷ [])) ∙ ap (λ (t : List ℕ). t ++ (left ++ 10 ∷ [])) (sym (next_front head front text l.counts k n e)) ∙ append_assoc front piece (left ++ 10 ∷ [])

-- the end of the line
pub line_ends : (l : LiveLineOf) (front text : List ℕ) (k n : ℕ) → length l.counts ≤ k + n → front ++ text ≡ head_text l ++ counts_text (take k l.counts)
    → text_of_line l ≡ front ++ ((text ++ counts_text (take n (drop k l.counts))) ++ 10 ∷ [])
line_ends l front text k n le e =
    let head = head_text l in
    let piece = text ++ counts_text (take n (drop k l.counts)) in
    line_is l ∙ ap (λ (cs : List TileCount). head ++ (counts_text cs ++ 10 ∷ [])) (sym (take_all (k + n) l.counts le)) ∙ sym (append_assoc head (counts_text (take (k + n) l.counts)) (10 ∷ []))
    ∙ ap (λ (t : List ℕ). t ++ 10 ∷ []) (sym (next_front head front text l.counts k n e)) ∙ append_assoc front piece (10 ∷ [])
