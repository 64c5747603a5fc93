-- The rows of a table, found by their words.
use Rattle.std.proofs.Common.{◌≡◌, ℕ, Bool, true, false, cond, List, [], ◌∷◌, map, Some, Option, refl, sym, ap, ◌∙◌}
use Rattle.std.specs.Option.{option_map}
use Rattle.std.specs.Str.{bytes_eq}
use Rattle.journal.specs.declared.kind.Kind.{Kind}
use Rattle.journal.specs.declared.table.Row.{Row}
use Rattle.journal.specs.Vocabulary.{item_by_word, kind_by_word, kind_word, kinds}

-- what stands in the row that a word finds is what the word finds among all that stands in the rows
pub option_map-item_by_word :
    {X Y : Type 0} (f : X → Y) (v : X → List ℕ) (w : Y → List ℕ) (xs : List X) (word : List ℕ) →
    map v xs ≡ map w (map f xs) →
    option_map f (item_by_word v xs word) ≡ item_by_word w (map f xs) word
option_map-item_by_word f v w [] word same = refl
option_map-item_by_word {X} {Y} f v w (x ∷ xs) word same =
    let here : v x ≡ w (f x) = cc in
    let behind : map v xs ≡ map w (map f xs) = cc in
    ap (λ (s : List ℕ). option_map f (cond (bytes_eq word s) (Some x) (item_by_word v xs word)))
    here
    ∙ by (bytes_eq word (w (f x))) (item_by_word v xs word) (item_by_word w (map f xs) word)
    (option_map-item_by_word f v w xs word behind)
  where
    by :
        (b : Bool) (o : Option X) (p : Option Y) → option_map f o ≡ p →
        option_map f (cond b (Some x) o) ≡ cond b (Some (f x)) p
    by true o p e = refl
    by false o p e = e

-- the kind in the row that a word finds, where the rows are those of the calls
pub option_map-kind :
    (rows : List Row) (word : List ℕ) → map (λ row. row.kind) rows ≡ kinds →
    map (λ row. row.word.now) rows ≡ map kind_word kinds →
    option_map (λ row. row.kind) (item_by_word (λ row. row.word.now) rows word) ≡ kind_by_word word
option_map-kind rows word same_kinds same_words =
    option_map-item_by_word (λ (row : Row). row.kind) (λ row. row.word.now) kind_word rows word
    (same_words ∙ sym (ap (map kind_word) same_kinds))
    ∙ ap (λ (all : List Kind). item_by_word kind_word all word) same_kinds
