-- Steps over known bytes.
use Rattle.std.proofs.Common.{◌≡◌, ℕ, ◌+◌, ◌-◌, ◌<◌, min, List, [], ◌++◌, length, take, drop, sym, ap, ◌∙◌, arith, append_assoc}
use Rattle.std.specs.declared.option.Option.{Option}
use Rattle.std.proofs.lemmas.List.{drop_min, drop-drop, take-append-drop, nil_from_length, length-drop, take_rest}
use Rattle.std.specs.Io.KnownBytes.{Appends}
use Rattle.std.proofs.KnownBytes.{Appends-trans}
use Rattle.rv_base.specs.Outside.{OutputState}

-- a write of n bytes of what is left of a text
pub write_more : (text done rest : List ℕ) (n : ℕ) (old mid new : Option (List ℕ)) → text ≡ done ++ rest → Appends old mid done → Appends mid new (take n rest) → (more : List ℕ) × (text ≡ more ++ take (length rest - n) (drop n rest)) × Appends old new more
write_more text done rest n old mid new e f g =
    (done ++ take n rest, e ∙ ap (λ l. done ++ l) (sym (take-append-drop n rest)) ∙ sym (append_assoc done (take n rest) (drop n rest)) ∙ ap (λ l. (done ++ take n rest) ++ l) (sym (take_rest rest n)), Appends-trans _ _ _ _ _ f g)

-- how far a text is written: a front of it, with no fault
pub record Goes (old now : OutputState) (steady : Type 0) (text rest : List ℕ) : Type 0 where
  pub done : List ℕ
  pub split : text ≡ done ++ rest
  pub appended : Appends old.written now.written done
  pub faults : now.faults ≡ old.faults
  pub refusals : now.refusals ≡ old.refusals
  pub goes_on : steady
