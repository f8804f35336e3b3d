-- The lines of a page, part by part.
use Rattle.std.proofs.Common.{◌≡◌, ℕ, ◌≤◌, ◌==◌, Bool, false, cond, List, [], ◌∷◌, ◌++◌, Ok, Err, IsErrAnd, append_assoc, sym, ap, ◌∙◌, subst, arith}
use Rattle.std.specs.List.{flat_map, AllByRecursion}
use Rattle.std.proofs.lemmas.Bool.Decides.{nat_tests}
use Rattle.std.proofs.lemmas.Grind.{flat_map-append}
use Rattle.rv_base.specs.Outside.{OutputState, Writes}
use Rattle.rv_base.specs.declared.fault.Fault.{Fault}
use Rattle.rv_base.specs.declared.fault.Fault.TheVariants.{Failed}
use Rattle.rv_book.specs.declared.page.Page.{Page}
use Rattle.rv_record.specs.ListLaws.{all-append}
use Rattle.rv_record.specs.CellTexts.{AreTexts, page_cell}
use Rattle.rv_record.specs.PageCells.{client_parts, group_parts, page_cells, parts_of, row_parts}
use Rattle.rv_standby.specs.Shipping.{Ships, cell_line, page_line, page_lines}
use Rattle.rv_standby.proofs.Shipped.{Done, done, ships_cut}

-- a text that was written whole
pub wrote : {T E : Type 0} (old new : OutputState) (x : T) (text : List ℕ) → Writes {E = E} old new (Ok x) text → Ships old new done text
wrote old new x text w = record { bytes = w.bytes; cause = w.cause.still; faults = w.cause.later; refusals = w.memory.later }

-- and one of which a front was
pub wrote_some : {T E : Type 0} (old new : OutputState) (fault : E) (text : List ℕ) → Writes {T = T} old new (Err fault) text → Ships old new (Err Failed) text
wrote_some old new fault text w = record { bytes = w.bytes; cause = w.cause.failed; faults = w.cause.later; refusals = w.memory.later }

-- a part of a text that was cut
pub part_fails : (old new : OutputState) (fault : Fault) (result : Done) (text more whole : List ℕ) → IsErrAnd result (λ d. d ≡ fault) → whole ≡ text ++ more → Ships old new (Err fault) text → Ships old new result whole
part_fails old new fault (Ok d) text more whole fails is some = absurd fails
part_fails old new fault (Err d) text more whole fails is some =
    subst (λ (f : Fault). Ships old new (Err f) whole) (sym fails) (subst (λ (t : List ℕ). Ships old new (Err fault) t) (sym is) (ships_cut old new fault text more some))

-- the last part of one
pub last_fails : (old new : OutputState) (fault : Fault) (result : Done) (text whole : List ℕ) → IsErrAnd result (λ d. d ≡ fault) → whole ≡ text → Ships old new (Err fault) text → Ships old new result whole
last_fails old new fault (Ok d) text whole fails is some = absurd fails
last_fails old new fault (Err d) text whole fails is some = subst (λ (f : Fault). Ships old new (Err f) whole) (sym fails) (subst (λ (t : List ℕ). Ships old new (Err fault) t) (sym is) some)

above_none : (n : ℕ) → 1 ≤ n → (n == 0) ≡ false
above_none n from = grind (arith, nat_tests)

module _ (page : Page) where
  abbrev pub place : List ℕ
  place = cell_line (page_cell page.at)

  abbrev pub rows : List ℕ
  rows = flat_map cell_line (row_parts page.rows)

  abbrev pub clients : List ℕ
  clients = flat_map cell_line (client_parts page.clients)

  abbrev pub groups : List ℕ
  groups = flat_map cell_line (group_parts page.groups)

  parts : flat_map cell_line (parts_of page) ≡ rows ++ (clients ++ groups)
  parts = flat_map-append cell_line (row_parts page.rows) (client_parts page.clients ++ group_parts page.groups) ∙ ap (λ (t : List ℕ). rows ++ t) (flat_map-append cell_line (client_parts page.clients) (group_parts page.groups))

  pub from_place : 1 ≤ page.at → page_lines page ≡ place ++ (rows ++ (clients ++ (groups ++ page_line)))
  from_place from =
      ap (λ (b : Bool). flat_map cell_line (cond b [] (page_cell page.at ∷ parts_of page)) ++ cond b [] page_line) (above_none page.at from)
      ∙ append_assoc place (flat_map cell_line (parts_of page)) page_line
      ∙ ap (λ (t : List ℕ). place ++ t) (ap (λ (t : List ℕ). t ++ page_line) parts ∙ append_assoc rows (clients ++ groups) page_line ∙ ap (λ (t : List ℕ). rows ++ t) (append_assoc clients groups page_line))

  pub from_rows : 1 ≤ page.at → page_lines page ≡ (place ++ rows) ++ (clients ++ (groups ++ page_line))
  from_rows from = from_place from ∙ sym (append_assoc place rows (clients ++ (groups ++ page_line)))

  pub from_clients : 1 ≤ page.at → page_lines page ≡ ((place ++ rows) ++ clients) ++ (groups ++ page_line)
  from_clients from = from_rows from ∙ sym (append_assoc (place ++ rows) clients (groups ++ page_line))

  pub from_groups : 1 ≤ page.at → page_lines page ≡ (((place ++ rows) ++ clients) ++ groups) ++ page_line
  from_groups from = from_clients from ∙ sym (append_assoc ((place ++ rows) ++ clients) groups page_line)

  -- where there is no page there are no lines of one
  pub no_lines : page.at ≡ 0 → page_lines page ≡ []
  no_lines none = ap (λ (n : ℕ). flat_map cell_line (cond (n == 0) [] (page_cell page.at ∷ parts_of page)) ++ cond (n == 0) [] page_line) none

  -- the cells of a page are texts, part by part
  pub texts_whole : 1 ≤ page.at → AreTexts (page_cell page.at) → AllByRecursion AreTexts (row_parts page.rows) → AllByRecursion AreTexts (client_parts page.clients) → AllByRecursion AreTexts (group_parts page.groups)
      → AllByRecursion AreTexts (page_cells page)
  texts_whole from at rows clients groups =
      let more = all-append AreTexts (client_parts page.clients) (group_parts page.groups) clients groups in
      subst (λ (b : Bool). AllByRecursion AreTexts (cond b [] (page_cell page.at ∷ parts_of page))) (sym (above_none page.at from)) (at, all-append AreTexts (row_parts page.rows) (client_parts page.clients ++ group_parts page.groups) rows more)

  -- and where there is no page there are none
  pub no_texts : page.at ≡ 0 → AllByRecursion AreTexts (page_cells page)
  no_texts none = subst (λ (n : ℕ). AllByRecursion AreTexts (cond (n == 0) [] (page_cell page.at ∷ parts_of page))) (sym none) tt
