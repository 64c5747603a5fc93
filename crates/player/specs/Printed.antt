-- The bytes of a printed line.
use Rattle.std.specs.Prelude.{◌≡◌, ℕ, Bool, cond, List, [], ◌∷◌, ◌++◌, vec_items, codes, decimal}
use Rattle.player.specs.declared.report.Report.{Report}

-- fields stand apart by a comma or a space
abbrev pub separator : Bool → ℕ
separator csv = cond csv 44 32

-- a field's name, and the text of the next
abbrev pub named_field : Bool → List ℕ → List ℕ → List ℕ
named_field csv name text = (separator csv ∷ name) ++ (separator csv ∷ text)

-- a field's name, and the number in the next
abbrev pub field_of : Bool → List ℕ → ℕ → List ℕ
field_of csv name n = named_field csv name (decimal n)

-- a point's line in a share-out
abbrev pub point_line : Bool → ℕ → ℕ → ℕ → ℕ → List ℕ
point_line csv line point consumption share =
    decimal line
    ++ (field_of csv (codes "point") point
    ++ (field_of csv (codes "consumption") consumption
    ++ (field_of csv (codes "share") share ++ (10 ∷ []))))

-- the new report has more bytes at its end
pub record Adds (old new : Report) (more : List ℕ) : Type 0 where
  pub bytes : vec_items new.bytes ≡ vec_items old.bytes ++ more
  pub form : new.csv ≡ old.csv
  pub line : new.line ≡ old.line
