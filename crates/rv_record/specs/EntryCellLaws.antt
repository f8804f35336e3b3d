-- What the cell of an entry is made of is found in it, so an entry's cell is that of no other entry of the form.
use Rattle.std.proofs.Common.{◌≡◌, ℕ, suc, ◌^◌, ◌<◌, Bool, List, Option, Some, None, codes, refl, sym, ap, ◌∙◌}
use Rattle.std.proofs.lemmas.Option.{same_Some}
use Rattle.json.proofs.Printed.Utf8.{IsUtf8-are_ascii}
use Rattle.serde_json.specs.Find.{as_bool}
use Rattle.serde_json.specs.Written.{compact_text}
use Rattle.rv_rows.specs.Members.{text_in, num_in, lists_in}
use Rattle.rv_rows.proofs.RowLaws.{lists_again}
use Rattle.rv_rows.specs.declared.call.Call.{Call}
use Rattle.rv_rows.specs.declared.call.Call.TheVariants.{CreateList, DeleteList, CreateShare, UpdateShare, DeleteShare, CreateTodo, UpdateTodo, DeleteTodo, SetExtent, Void}
use Rattle.rv_rows.specs.declared.call.Reason.TheVariants.{UnknownName, BadArgs}
use Rattle.rv_rows.specs.declared.role.Role.TheVariants as roles
use Rattle.rv_book.specs.declared.entry.Entry.{Entry}
use Rattle.rv_book.specs.declared.entry.Entry.TheVariants.{Act, Look, Retire}
use Rattle.rv_keeper.specs.declared.cell.Cell.{Cell}
use Rattle.rv_record.specs.CallTexts.{text_or_null, flag_or_null, number_or_null, lists_or_null, call_data}
use Rattle.rv_record.specs.EntryTexts.{entry_data}
use Rattle.rv_record.specs.CellTexts.{entry_cell}
use Rattle.rv_record.specs.CellReading.{IsText}
use Rattle.rv_record.specs.ValueReading.{or_null, place_in}
use Rattle.rv_record.specs.EntryReading.{IfThere, ListsFit, CallFits, EntryFits, stored_create_list_in, stored_create_share_in, stored_update_share_in, stored_create_todo_in, stored_update_todo_in, stored_set_extent_in, stored_call_in, act_in, look_in, entry_in, body_entry}
use Rattle.rv_record.specs.ReadBackLaws.{IsPlain, json_again, ids_plain}
use Rattle.rv_record.specs.ReadTextLaws.{within_again, num_again, place_again, num_plain, place_plain}

text_plain : (o : Option (List ℕ)) (n : ℕ) → IfThere (IsText 0 16384) o → IsPlain (text_or_null o) n
text_plain None n h = tt
text_plain (Some t) n h = h.1

flag_plain : (o : Option Bool) (n : ℕ) → IsPlain (flag_or_null o) n
flag_plain None n = tt
flag_plain (Some b) n = tt

maybe_num_plain : (o : Option ℕ) (n : ℕ) → IfThere (λ m. m < 2 ^ 53) o → IsPlain (number_or_null o) n
maybe_num_plain None n h = tt
maybe_num_plain (Some m) n h = num_plain m h

maybe_place_plain : (o : Option ℕ) (n : ℕ) → IfThere (λ m. m < 2 ^ 32) o → IsPlain (number_or_null o) n
maybe_place_plain None n h = tt
maybe_place_plain (Some m) n h = place_plain m h

lists_plain : (o : Option (List (List ℕ))) (n : ℕ) → IfThere ListsFit o → IsPlain (lists_or_null o) (suc n)
lists_plain None n h = tt
lists_plain (Some lists) n h = ids_plain lists n h.1

call_plain : (call : Call) (n : ℕ) → CallFits call → IsPlain (call_data call) (suc (suc n))
call_plain (CreateList id name owner) n h = (IsUtf8-are_ascii (codes "createList") refl, (h.0.1, (h.1.1, (h.2.1, tt))))
call_plain (DeleteList id) n h = (IsUtf8-are_ascii (codes "deleteList") refl, (h.1, tt))
call_plain (CreateShare id list user roles.View) n h = (IsUtf8-are_ascii (codes "createShare") refl, (h.0.1, (h.1.1, (h.2.1, (IsUtf8-are_ascii (codes "view") refl, tt)))))
call_plain (CreateShare id list user roles.Edit) n h = (IsUtf8-are_ascii (codes "createShare") refl, (h.0.1, (h.1.1, (h.2.1, tt))))
call_plain (UpdateShare id roles.View) n h = (IsUtf8-are_ascii (codes "updateShare") refl, (h.1, (IsUtf8-are_ascii (codes "view") refl, tt)))
call_plain (UpdateShare id roles.Edit) n h = (IsUtf8-are_ascii (codes "updateShare") refl, (h.1, (IsUtf8-are_ascii (codes "edit") refl, tt)))
call_plain (DeleteShare id) n h = (IsUtf8-are_ascii (codes "deleteShare") refl, (h.1, tt))
call_plain (CreateTodo id list text complete) n h = (IsUtf8-are_ascii (codes "createTodo") refl, (h.0.1, (h.1.1, (h.2.1, (tt, tt)))))
call_plain (UpdateTodo id text complete sort) n h =
    (IsUtf8-are_ascii (codes "updateTodo") refl, (h.0.1, (text_plain text (suc n) h.1, (flag_plain complete (suc n), (maybe_num_plain sort (suc n) h.2, tt)))))
call_plain (DeleteTodo id) n h = (IsUtf8-are_ascii (codes "deleteTodo") refl, (h.1, tt))
call_plain (SetExtent lists) n h = (IsUtf8-are_ascii (codes "setExtent") refl, (lists_plain lists n h, tt))
call_plain (Void UnknownName) n h = (IsUtf8-are_ascii (codes "void") refl, (IsUtf8-are_ascii (codes "UnknownName") refl, tt))
call_plain (Void BadArgs) n h = (IsUtf8-are_ascii (codes "void") refl, (IsUtf8-are_ascii (codes "BadArgs") refl, tt))

entry_plain : (entry : Entry) (n : ℕ) → EntryFits entry → IsPlain (entry_data entry) (suc (suc (suc n)))
entry_plain (Act user group client id call) n h =
    (IsUtf8-are_ascii (codes "act") refl, (h.0.1, (h.1.1, (h.2.1, (num_plain id h.3, (call_plain call n h.4, tt))))))
entry_plain (Look user group order base) n h =
    (IsUtf8-are_ascii (codes "look") refl, (h.0.1, (h.1.1, (num_plain order h.2, (maybe_place_plain base (suc (suc n)) h.3, tt)))))
entry_plain (Retire group) n h = (IsUtf8-are_ascii (codes "retire") refl, (h.1, tt))

maybe_text_again : (o : Option (List ℕ)) → IfThere (IsText 0 16384) o → or_null (text_in 0 16384) (text_or_null o) ≡ Some o
maybe_text_again None h = refl
maybe_text_again (Some t) h = rw (within_again 0 16384 t h.0) refl

maybe_flag_again : (o : Option Bool) → or_null as_bool (flag_or_null o) ≡ Some o
maybe_flag_again None = refl
maybe_flag_again (Some b) = refl

maybe_num_again : (o : Option ℕ) → IfThere (λ n. n < 2 ^ 53) o → or_null num_in (number_or_null o) ≡ Some o
maybe_num_again None h = refl
maybe_num_again (Some n) h = rw (num_again n h) refl

maybe_place_again : (o : Option ℕ) → IfThere (λ n. n < 2 ^ 32) o → or_null place_in (number_or_null o) ≡ Some o
maybe_place_again None h = refl
maybe_place_again (Some n) h = rw (place_again n h) refl

maybe_lists_again : (o : Option (List (List ℕ))) → IfThere ListsFit o → or_null lists_in (lists_or_null o) ≡ Some o
maybe_lists_again None h = refl
maybe_lists_again (Some lists) h = rw (lists_again lists h.0 h.2) refl

call_again : (call : Call) → CallFits call → stored_call_in (call_data call) ≡ Some call
unfolding stored_call_in stored_create_list_in stored_create_share_in stored_update_share_in stored_create_todo_in stored_update_todo_in stored_set_extent_in
call_again (CreateList id name owner) h = rw (within_again 1 128 id h.0.0, within_again 0 16384 name h.1.0, within_again 1 64 owner h.2.0) refl
call_again (DeleteList id) h = rw (within_again 1 128 id h.0) refl
call_again (CreateShare id list user roles.View) h = rw (within_again 1 128 id h.0.0, within_again 1 128 list h.1.0, within_again 1 64 user h.2.0) refl
call_again (CreateShare id list user roles.Edit) h = rw (within_again 1 128 id h.0.0, within_again 1 128 list h.1.0, within_again 1 64 user h.2.0) refl
call_again (UpdateShare id roles.View) h = rw (within_again 1 128 id h.0) refl
call_again (UpdateShare id roles.Edit) h = rw (within_again 1 128 id h.0) refl
call_again (DeleteShare id) h = rw (within_again 1 128 id h.0) refl
call_again (CreateTodo id list text complete) h = rw (within_again 1 128 id h.0.0, within_again 1 128 list h.1.0, within_again 0 16384 text h.2.0) refl
call_again (UpdateTodo id text complete sort) h = rw (within_again 1 128 id h.0.0, maybe_text_again text h.1, maybe_flag_again complete, maybe_num_again sort h.2) refl
call_again (DeleteTodo id) h = rw (within_again 1 128 id h.0) refl
call_again (SetExtent lists) h = rw (maybe_lists_again lists h) refl
call_again (Void UnknownName) h = refl
call_again (Void BadArgs) h = refl

entry_again : (entry : Entry) → EntryFits entry → entry_in (entry_data entry) ≡ Some entry
unfolding entry_in act_in look_in
entry_again (Act user group client id call) h = rw (within_again 1 64 user h.0.0, within_again 1 128 group h.1.0, within_again 1 128 client h.2.0, num_again id h.3, call_again call h.4) refl
entry_again (Look user group order base) h = rw (within_again 1 64 user h.0.0, within_again 1 128 group h.1.0, num_again order h.2, maybe_place_again base h.3) refl
entry_again (Retire group) h = rw (within_again 1 128 group h.0) refl

-- the body of an entry of the form is read as that entry
pub body_entry_again : (entry : Entry) → EntryFits entry → body_entry (compact_text (entry_data entry)) ≡ Some entry
body_entry_again entry h = rw (json_again (entry_data entry) (entry_plain entry 124 h)) (entry_again entry h)

-- two entries of the form that have one body are the same
pub entry_body_injective : (at also : ℕ) (a b : Entry) → EntryFits a → EntryFits b → (entry_cell at a).body ≡ (entry_cell also b).body → a ≡ b
entry_body_injective at also a b one other same = same_Some a b (sym (body_entry_again a one) ∙ ap body_entry same ∙ body_entry_again b other)

-- two entries of the form that have one cell at a place are the same
pub entry_cell_injective : (place : ℕ) (a b : Entry) → EntryFits a → EntryFits b → entry_cell place a ≡ entry_cell place b → a ≡ b
entry_cell_injective place a b one other same = entry_body_injective place place a b one other (ap (λ (cell : Cell). cell.body) same)
