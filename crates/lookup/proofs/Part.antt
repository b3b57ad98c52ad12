-- The laws of a lookup's part: pages and links. In order: the links after a change of a page, and of the links; the pages; lengths; the part
-- that the code lends. Assumes nothing.
use Rattle.std.proofs.Common.{◌≡◌, ℕ, ◌-◌, ◌<◌, ◌≤◌, List, [], ◌++◌, length, take, drop, sym, ap, ◌∙◌, append-nil, arith, length-append, length-drop, length-take-le, get_or-take, drop-set-lt, drop_at}
use lib.ListN.{get_or-append}
use lib.Seq.{drop-length}
use borrow.Author.Rules.{part_to_end}
use Rattle.lookup.specs.Part.{page_of, with_page, links_of, in_links}

-- the links
pub links_with_page : (m : ℕ) (w : List ℕ) (y p : ℕ) → y < m → links_of m (with_page w y p) ≡ links_of m w
unfolding links_of
links_with_page m w y p h = drop-set-lt m w y p h

module _ (m : ℕ) (f : List ℕ → List ℕ) (w : List ℕ) (h : m ≤ length w) where
  pub links_in_links : links_of m (in_links m f w) ≡ f (links_of m w)
  unfolding links_of in_links
  links_in_links = drop_at (take m w) (f (drop m w)) m (length-take-le m w h)

  -- the pages
  pub page_in_links : (x : ℕ) → x < m → page_of (in_links m f w) x ≡ page_of w x
  unfolding in_links
  page_in_links x l = get_or-append (take m w) (f (drop m w)) 0 x (let q : length (take m w) ≡ m = length-take-le m w h in omega arith) ∙ get_or-take m w x 0 l

  pub length_in_links : length (f (links_of m w)) ≡ length (links_of m w) → length (in_links m f w) ≡ length w
  unfolding links_of in_links
  length_in_links e =
      let q : length (take m w) ≡ m = length-take-le m w h in
      let d : length (drop m w) ≡ length w - m = length-drop m w in
      length-append (take m w) (f (drop m w)) ∙ (omega arith)

-- what the code lends as `w[m..]`, and what w is when that is back
pub links_lent : (m : ℕ) (w : List ℕ) → take (length w - m) (drop m w) ≡ links_of m w
unfolding links_of
links_lent m w = part_to_end w m

pub links_back : (m : ℕ) (f : List ℕ → List ℕ) (w v : List ℕ) → v ≡ f (take (length w - m) (drop m w)) → take m w ++ (v ++ drop (length w - m) (drop m w)) ≡ in_links m f w
unfolding in_links
links_back m f w v q =
    let e : drop (length w - m) (drop m w) ≡ [] = ap (λ (n : ℕ). drop n (drop m w)) (sym (length-drop m w)) ∙ drop-length (drop m w) in
    ap (λ (t : List ℕ). take m w ++ (v ++ t)) e ∙ ap (λ (t : List ℕ). take m w ++ t) (append-nil v ∙ q ∙ ap f (part_to_end w m))
