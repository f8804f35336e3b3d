-- What each form of a tree is as a document.
use Rattle.std.proofs.Common.{◌≡◌, ℕ, Bool, List, Vec, Global, Bor, rules}
use Rattle.json.specs.Json as json
use Rattle.json.specs.Value.{value_view, items_view, members_view}
use Rattle.json.specs.declared.value.Value.{Value, Null, Bool as Flag, Number, String, Array, Object, the_lemmas}

pub view_null : value_view {A = Global} Null ≡ json.null
view_null = search (rules, the_lemmas)

pub view_bool : (b : Bool) → value_view {A = Global} (Flag b) ≡ json.boolean b
view_bool b = search (rules, the_lemmas)

pub view_number : (s : Bor (List ℕ)) → value_view {A = Global} (Number s) ≡ json.number s.now
view_number s = search (rules, the_lemmas)

pub view_string : (s : Bor (List ℕ)) → value_view {A = Global} (String s) ≡ json.string s.now
view_string s = search (rules, the_lemmas)

pub view_array : (v : Vec (Value Global) Global) → value_view (Array v) ≡ json.array (items_view v.items)
view_array v = search (rules, the_lemmas)

pub view_object : (v : Vec (Bor (List ℕ) × Value Global) Global) → value_view (Object v) ≡ json.object (members_view v.items)
view_object v = search (rules, the_lemmas)
