-- The lines of the answers. In order: room for them; an answer that is known by its case; a victim; a refusal. Assumes nothing.
use mathlib.Core.Path.{◌≡◌, refl}
use mathlib.Core.List.{List, [], ◌∷◌, ◌++◌, append_assoc}
use Prim.Native.Nat.{ℕ, ◌^◌, ◌<◌, ◌≤◌}
use native.Mathlib.Omega.{arith}
use lib.ListN.{length, length-append}
use Rattle.rules.specs.declared.Side.TheVariants.{First as first, Second as second}
use Rattle.rules.specs.Calls.{Answer, Place, ghost, nowhere, out, New, Stopped}
use Rattle.answers.specs.Answers.{place_is}
use Rattle.answers.specs.declared.Place as answers
use Rattle.answers.specs.declared.Place.TheVariants.{B1, B2}
use Rattle.rules.specs.Decimal.{decimal}
use Rattle.rules.specs.Program.{bytes, line, place_text, text_of}
use Rattle.lines.specs.Lines.{Room, LineRoom, Put}
use Rattle.lines.proofs.Digits.{digits_of_u64, digits_of_u32, digits_of_u8}
use Rattle.lines.proofs.Puts.{put_nothing, put_both, room_first, room_second}

-- ---- room
pub word_room : (w : List ℕ) (at : ℕ) (word : List ℕ) → LineRoom w at → length word ≤ 43 → Room w at word
word_room w at word h k = record { fits = omega arith }

pub line_room_fact : (w : List ℕ) (at : ℕ) (word : List ℕ) (n : ℕ) → LineRoom w at → length word ≤ 22 → n < 2 ^ 64 → Room w at (line (word ++ decimal n))
line_room_fact w at word n h k small =
    record { fits = omega (arith, length-append (word ++ decimal n) (0x0A ∷ []), length-append word (decimal n), digits_of_u64 n small) }

-- the same for a frame
pub frame_room : (w : List ℕ) (at : ℕ) (word : List ℕ) (n : ℕ) → LineRoom w at → length word ≤ 22 → n < 2 ^ 32 → Room w at (line (word ++ decimal n))
frame_room w at word n h k small = line_room_fact w at word n h k (omega arith)

-- ---- an answer x that is the case y
pub told_as : {A : Type 0} (is : A → Answer) (w v : List ℕ) (at r : ℕ) (x y : A) → x ≡ y → Put w v at (text_of (is y)) r → Put w v at (text_of (is x)) r
told_as is w v at r x y q p = rw q p

-- a refusal has no line
pub no_line : (w : List ℕ) (at : ℕ) → LineRoom w at → Put w w at [] at
no_line w at h = put_nothing w at (omega arith)

-- ---- texts behind each other, grouped as they are written and as the definition has them
victim_grouped : (new o k s f p e : List ℕ) → new ++ o ++ k ++ (s ++ f) ++ (s ++ p ++ e) ≡ new ++ (o ++ k ++ s ++ f ++ s ++ p) ++ e
victim_grouped new o k s f p e = simp append_assoc

-- ---- a victim's line: a page, a frame, and where the victim is recorded
abbrev page_text : ℕ → List ℕ
page_text k = bytes "new out " ++ decimal k

abbrev frame_text : ℕ → List ℕ
frame_text f = bytes " " ++ decimal f

abbrev place_text_lem : Place → List ℕ
place_text_lem place = line (bytes " " ++ place_text place)

place_le : (place : Place) → length (place_text_lem place) ≤ 4
place_le (ghost first) = omega arith
place_le (ghost second) = omega arith
place_le nowhere = omega arith

victim_room : (w : List ℕ) (at k f : ℕ) (end : List ℕ) → LineRoom w at → k < 2 ^ 64 → f < 2 ^ 32 → length end ≤ 4 → Room w at (page_text k ++ frame_text f ++ end)
victim_room w at k f end h hk hf le =
    record { fits = omega (arith, length-append (page_text k ++ frame_text f) end, length-append (page_text k) (frame_text f), digits_of_u64 k hk, digits_of_u32 f hf) }

fields_room : (w : List ℕ) (at k f : ℕ) → LineRoom w at → k < 2 ^ 64 → f < 2 ^ 32 → Room w at (page_text k ++ frame_text f)
fields_room w at k f h hk hf = room_first w at (page_text k ++ frame_text f) [] (victim_room w at k f [] h hk hf (omega arith))

pub page_room : (w : List ℕ) (at k : ℕ) → LineRoom w at → k < 2 ^ 64 → Room w at (page_text k)
page_room w at k h hk = room_first w at (page_text k) (frame_text 0) (fields_room w at k 0 h hk (omega arith))

pub after_page_room : (w u : List ℕ) (at p k f : ℕ) → LineRoom w at → k < 2 ^ 64 → f < 2 ^ 32 → Put w u at (page_text k) p → Room u p (frame_text f)
after_page_room w u at p k f h hk hf x = room_second w u at (page_text k) (frame_text f) p x (fields_room w at k f h hk hf)

pub page_and_frame : (w u v : List ℕ) (at p r k f : ℕ) → LineRoom w at → k < 2 ^ 64 → f < 2 ^ 32 → Put w u at (page_text k) p → Put u v p (frame_text f) r
    → Put w v at (page_text k ++ frame_text f) r
page_and_frame w u v at p r k f h hk hf x y = put_both w u v at (page_text k) (frame_text f) p r (fields_room w at k f h hk hf) x y

pub place_room : (w u : List ℕ) (at p k f : ℕ) (place : Place) → LineRoom w at → k < 2 ^ 64 → f < 2 ^ 32 → Put w u at (page_text k ++ frame_text f) p → Room u p (place_text_lem place)
place_room w u at p k f place h hk hf x = room_second w u at (page_text k ++ frame_text f) (place_text_lem place) p x (victim_room w at k f (place_text_lem place) h hk hf (place_le place))

pub victim_line : (w u v : List ℕ) (at p r k f : ℕ) (place : Place) (n : ℕ) → LineRoom w at → k < 2 ^ 64 → f < 2 ^ 32
    → Put w u at (page_text k ++ frame_text f) p → Put u v p (place_text_lem place) r
    → Put w v at (text_of (New (out k f place) n)) r
unfolding text_of
victim_line w u v at p r k f place n h hk hf x y =
    let put = put_both w u v at (page_text k ++ frame_text f) (place_text_lem place) p r (victim_room w at k f (place_text_lem place) h hk hf (place_le place)) x y in
    let text : page_text k ++ frame_text f ++ place_text_lem place ≡ text_of (New (out k f place) n) =
    victim_grouped (bytes "new") (bytes " out ") (decimal k) (bytes " ") (decimal f) (place_text place) (0x0A ∷ []) in
    rw text at put

-- a place known by its case
pub place_told : (w v : List ℕ) (at r : ℕ) (x y : answers.Place) → x ≡ y → Put w v at (place_text_lem (place_is y)) r → Put w v at (place_text_lem (place_is x)) r
place_told w v at r x y q p = rw q p

place_size : (x : answers.Place) → length (place_text_lem (place_is x)) ≡ 4
place_size B1 = refl
place_size B2 = refl

pub place_word_room : (w : List ℕ) (at : ℕ) (x : answers.Place) (word : List ℕ) → Room w at (place_text_lem (place_is x)) → length word ≤ 4 → Room w at word
place_word_room w at x word h le = record { fits = omega (arith, h.fits, place_size x) }

-- ---- a refusal's line
stop_room : (w : List ℕ) (at r o : ℕ) → LineRoom w at → r < 2 ^ 8 → o < 2 ^ 64 → Room w at (bytes "stop " ++ decimal r ++ line (bytes " at " ++ decimal o))
stop_room w at r o h hr ho =
    let first = bytes "stop " ++ decimal r in
    let offset = bytes " at " ++ decimal o in
    record { fits = omega (arith, length-append first (line offset), length-append offset (0x0A ∷ []), digits_of_u8 r hr, digits_of_u64 o ho) }

pub refusal_room : (w : List ℕ) (at r : ℕ) → LineRoom w at → r < 2 ^ 8 → Room w at (bytes "stop " ++ decimal r)
refusal_room w at r h hr = room_first w at (bytes "stop " ++ decimal r) _ (stop_room w at r 0 h hr (omega arith))

pub offset_room : (w u : List ℕ) (at p r o : ℕ) → LineRoom w at → r < 2 ^ 8 → o < 2 ^ 64 → Put w u at (bytes "stop " ++ decimal r) p → Room u p (line (bytes " at " ++ decimal o))
offset_room w u at p r o h hr ho x = room_second w u at (bytes "stop " ++ decimal r) _ p x (stop_room w at r o h hr ho)

pub stop_line : (w u v : List ℕ) (at p q r o : ℕ) → LineRoom w at → r < 2 ^ 8 → o < 2 ^ 64
    → Put w u at (bytes "stop " ++ decimal r) p → Put u v p (line (bytes " at " ++ decimal o)) q
    → Put w v at (text_of (Stopped r o)) q
unfolding text_of
stop_line w u v at p q r o h hr ho x y =
    let put = put_both w u v at (bytes "stop " ++ decimal r) (line (bytes " at " ++ decimal o)) p q (stop_room w at r o h hr ho) x y in
    let text : bytes "stop " ++ decimal r ++ line (bytes " at " ++ decimal o) ≡ text_of (Stopped r o) = simp append_assoc in
    rw text at put
