-- One piece of text behind another.
use Rattle.std.proofs.Common.{◌≡◌, ℕ, Bool, cond, List, ◌++◌, is_ok, IfOk, Ok, Err, vec_items, Result, ◌∙◌, append_assoc}
use Rattle.player.specs.declared.report.Report.{Report}
use Rattle.player.specs.Printed.{Adds}

-- what the second call adds stands behind what the first has added
pub adds_both : {E : Type 0} (r : Result Unit E) (a b c : Report) (s : List ℕ) (t : Bool → List ℕ) →
    Adds a b s → IfOk r (λ _. Adds b c (t b.csv)) → IfOk r (λ _. Adds a c (s ++ t a.csv))
adds_both (Ok x) a b c s t first second =
    record {
      bytes =
          second.bytes
          ∙ (λ i. first.bytes i ++ t (first.form i))
          ∙ append_assoc (vec_items a.bytes) s (t a.csv);
      form = second.form ∙ first.form;
      line = second.line ∙ first.line;
    }
adds_both (Err e) a b c s t first second = tt

-- what extends the bytes where it can
pub adds_extension : {E : Type 0} (r : Result Unit E) (b c : Report) (more : List ℕ) →
    vec_items c.bytes ≡ cond (is_ok r) (vec_items b.bytes ++ more) (vec_items b.bytes) →
    c.csv ≡ b.csv → c.line ≡ b.line → IfOk r (λ _. Adds b c more)
adds_extension (Ok x) b c more e form line = record { bytes = e; form = form; line = line }
adds_extension (Err x) b c more e form line = tt

-- what puts more behind the bytes
pub adds_bytes : {E : Type 0} (r : Result Unit E) (b c : Report) (more : List ℕ) →
    IfOk r (λ _. vec_items c.bytes ≡ vec_items b.bytes ++ more) →
    c.csv ≡ b.csv → c.line ≡ b.line → IfOk r (λ _. Adds b c more)
adds_bytes (Ok x) b c more e form line = record { bytes = e; form = form; line = line }
adds_bytes (Err x) b c more e form line = tt
