-- The fixed words of the journal, and what each stands for.
use Rattle.std.specs.Prelude.{◌≡◌, ℕ, List, [], ◌∷◌, Some, codes, Option, refl}
use Rattle.std.specs.List.{find}
use Rattle.std.specs.Str.{bytes_eq}
use Rattle.journal.specs.declared.kind.Kind.{Kind}
use Rattle.journal.specs.declared.kind.Kind.TheVariants.{Ledger, Sheet, Profile, Trader, Point, Open, Enter, Inflow, Share, Abandon, Read, Book, HandOver, Withdraw, Quantity}
use Rattle.journal.specs.declared.kind.Rule.{Rule}
use Rattle.journal.specs.declared.kind.Rule.TheVariants.{Running, Largest}
use Rattle.journal.specs.declared.kind.Shape.{Shape}
use Rattle.journal.specs.declared.kind.Shape.TheVariants.{Table, Even, Season}

-- a call's first word
abbrev pub kind_word : Kind → List ℕ
kind_word Ledger = codes "ledger"
kind_word Sheet = codes "sheet"
kind_word Profile = codes "profile"
kind_word Trader = codes "trader"
kind_word Point = codes "point"
kind_word Open = codes "open"
kind_word Enter = codes "enter"
kind_word Inflow = codes "inflow"
kind_word Share = codes "share"
kind_word Abandon = codes "abandon"
kind_word Read = codes "read"
kind_word Book = codes "book"
kind_word HandOver = codes "hand-over"
kind_word Withdraw = codes "withdraw"
kind_word Quantity = codes "quantity"

-- the word of a shape, and of a share rule
abbrev pub shape_word : Shape → List ℕ
shape_word Table = codes "table"
shape_word Even = codes "even"
shape_word Season = codes "season"

abbrev pub rule_word : Rule → List ℕ
rule_word Running = codes "running"
rule_word Largest = codes "largest"

-- the first of a list that goes by a word
abbrev pub item_by_word : {X : Type 0} → (X → List ℕ) → List X → List ℕ → Option X
item_by_word word_of items word = find (λ x. bytes_eq word (word_of x)) items

abbrev pub kinds : List Kind
kinds =
    Ledger ∷ Sheet ∷ Profile ∷ Trader ∷ Point ∷ Open ∷ Enter ∷ Inflow ∷ Share ∷ Abandon ∷ Read
    ∷ Book ∷ HandOver ∷ Withdraw ∷ Quantity ∷ []

abbrev pub shapes : List Shape
shapes = Table ∷ Even ∷ Season ∷ []

abbrev pub rules : List Rule
rules = Running ∷ Largest ∷ []

abbrev pub kind_by_word : List ℕ → Option Kind
kind_by_word word = item_by_word kind_word kinds word

abbrev pub shape_by_word : List ℕ → Option Shape
shape_by_word word = item_by_word shape_word shapes word

abbrev pub rule_by_word : List ℕ → Option Rule
rule_by_word word = item_by_word rule_word rules word

-- each is found by its own word
pub kind_by_word-kind_word : (kind : Kind) → kind_by_word (kind_word kind) ≡ Some kind
kind_by_word-kind_word Ledger = refl
kind_by_word-kind_word _ = refl

pub shape_by_word-shape_word : (shape : Shape) → shape_by_word (shape_word shape) ≡ Some shape
shape_by_word-shape_word Table = refl
shape_by_word-shape_word _ = refl

pub rule_by_word-rule_word : (rule : Rule) → rule_by_word (rule_word rule) ≡ Some rule
rule_by_word-rule_word Running = refl
rule_by_word-rule_word _ = refl
