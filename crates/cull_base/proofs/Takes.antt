-- Bytes taken from a source, piece after piece.
use Rattle.std.proofs.Common.{◌≡◌, ℕ, ◌+◌, ◌<◌, ◌≤◌, ◌++◌, List, [], length, take, drop, get_or, arith, refl, sym, ap, ◌∙◌, Option, Some, None, append_assoc, subst, take-append-drop}
use Rattle.std.specs.Option.{option_map}
use Rattle.std.specs.List.{All}
use Rattle.std.proofs.Math.Seq.{take-add}
use Rattle.std.proofs.lemmas.List.{length-take, take-take, take_at, drop_at, get_or-append-add, get_or_append_left}
use Rattle.std.proofs.lemmas.List.Elements.{All-append, All-take, All-nil, All-from_get_or}
use Rattle.std.proofs.lemmas.Slice.{take-put_mid}
use borrow.Rule.Slice.PartMut.{put_mid, post_of}
use Rattle.cull_base.specs.Stream.{Takes, TakesFront}

abbrev pub IsByte : ℕ → Type 0
IsByte b = b < 256

pub takes_nothing : (a : Option (List ℕ)) → Takes a a []
takes_nothing a = record { front = same a; fits = All-nil IsByte }
  where
    same : (o : Option (List ℕ)) → o ≡ option_map (λ (rest : List ℕ). [] ++ rest) o
    same None = refl
    same (Some r) = refl

pub takes_then : (a b c : Option (List ℕ)) (x y : List ℕ) → Takes a b x → Takes b c y → Takes a c (x ++ y)
takes_then a b c x y p q = record {
  front = p.front ∙ ap (option_map (λ (rest : List ℕ). x ++ rest)) q.front ∙ joined c;
  fits = All-append IsByte x y p.fits q.fits;
}
  where
    joined : (o : Option (List ℕ)) → option_map (λ (rest : List ℕ). x ++ rest) (option_map (λ (rest : List ℕ). y ++ rest) o) ≡ option_map (λ (rest : List ℕ). (x ++ y) ++ rest) o
    joined None = refl
    joined (Some r) = ap Some (sym (append_assoc x y r))

-- what one read took
pub takes_front : (a b : Option (List ℕ)) (buffer : List ℕ) (n : ℕ) → All IsByte buffer → TakesFront a b buffer n → Takes a b (take n buffer)
takes_front None b buffer n fits h = record {
  front = sym (ap (option_map (λ (rest : List ℕ). take n buffer ++ rest)) h.0);
  fits = All-take IsByte n buffer fits;
}
takes_front (Some all) b buffer n fits h = record {
  front = ap Some (sym (take-append-drop n all) ∙ ap (λ (t : List ℕ). t ++ drop n all) (sym h.1.1)) ∙ sym (ap (option_map (λ (rest : List ℕ). take n buffer ++ rest)) h.0);
  fits = All-take IsByte n buffer fits;
}

-- the front of a buffer whose end was written behind k
front_put : (k m n : ℕ) (buffer part : List ℕ) → k ≤ length buffer → n ≤ length part → take (k + n) (put_mid k m buffer part) ≡ take k buffer ++ take n part
front_put k m n buffer part in_buffer in_part =
    let all = put_mid k m buffer part in
    let long : take (k + length part) all ≡ take k buffer ++ part = take-put_mid k m buffer part (k + length part) refl in_buffer in
    let len : length (take k buffer) ≡ k = omega (arith, length-take k buffer) in
    let cut : take (k + n) all ≡ take (k + n) (take (k + length part) all) = sym (take-take (k + n) (k + length part) all (omega arith)) in
    cut ∙ ap (take (k + n)) long ∙ take-add k n (take k buffer ++ part) ∙ both len
  where
    both : length (take k buffer) ≡ k → take k (take k buffer ++ part) ++ take n (drop k (take k buffer ++ part)) ≡ take k buffer ++ take n part
    both len = rw (take_at (take k buffer) part k len, drop_at (take k buffer) part k len) refl

-- the bytes of a part that was written into a buffer of bytes
pub bytes_of_part : (k m : ℕ) (buffer part : List ℕ) → k ≤ length buffer → ((i : ℕ) → get_or (put_mid k m buffer part) i 0 < 256) → All IsByte part
bytes_of_part k m buffer part in_buffer fits = All-from_get_or IsByte part 0 (λ i lt.
    let len : length (take k buffer) ≡ k = omega (arith, length-take k buffer) in
    let past : get_or (put_mid k m buffer part) (length (take k buffer) + i) 0 ≡ get_or (part ++ post_of k m buffer) i 0 = get_or-append-add (take k buffer) (part ++ post_of k m buffer) i 0 in
    let here : get_or (part ++ post_of k m buffer) i 0 ≡ get_or part i 0 = get_or_append_left part (post_of k m buffer) 0 i lt in
    subst (λ (n : ℕ). n < 256) (past ∙ here) (fits (length (take k buffer) + i)))

pub takes_more : (a b c : Option (List ℕ)) (k m n : ℕ) (buffer part : List ℕ) → k ≤ length buffer → n ≤ length part → All IsByte part → Takes a b (take k buffer) → TakesFront b c part n → Takes a c (take (k + n) (put_mid k m buffer part))
takes_more a b c k m n buffer part in_buffer in_part fits before now =
    rw (front_put k m n buffer part in_buffer in_part) (takes_then a b c (take k buffer) (take n part) before (takes_front b c part n fits now))
