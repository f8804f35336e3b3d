-- What is read as a row is the row's value, and the value of a row is read as it.
use Rattle.std.proofs.Common.{◌≡◌, ℕ, ◌<◌, ◌≤◌, ◌^◌, Bool, true, List, [], ◌∷◌, map, length, Option, Some, None, refl, sym, ap, ◌∙◌, subst, arith, ◌&&◌, leb, nat_lt}
use Rattle.std.specs.Prelude.{codes, option_map, option_and_then, IfSome}
use Rattle.std.specs.Str.{bytes_eq}
use Rattle.std.proofs.lemmas.Slice.Eq.{bytes_eq-Decides}
use Rattle.std.proofs.lemmas.Option.{none-some, same_Some, cond_some}
use Rattle.std.proofs.lemmas.Bool.Decides.{nat_tests}
use Rattle.std.specs.List.{AllByRecursion}
use Rattle.std.proofs.lemmas.Bool.{and_parts}
use Rattle.serde_json.specs.Data.{Data, unsigned, negative, float, Items, no_items, item, Members, no_members, member, null, boolean, number, string, array, object}
use Rattle.serde_json.specs.View.{items_of}
use Rattle.serde_json.specs.Find.{as_bool, as_str}
use Rattle.rv_base.specs.Sorted.{is_in_order}
use Rattle.rv_base.specs.RisingLaws.{order_is, in_order-from_test}
use Rattle.rv_base.specs.Texts.{IsWithin}
use Rattle.rv_base.specs.Options.{◌>>=◌}
use Rattle.rv_rows.specs.declared.role.Role.{Role}
use Rattle.rv_rows.specs.declared.role.Role.TheVariants as roles
use Rattle.rv_rows.specs.declared.row.Row.{Row}
use Rattle.rv_rows.specs.declared.row.Row.TheVariants as variants
use Rattle.rv_rows.specs.declared.row.ExtentRow.{ExtentRow}
use Rattle.rv_rows.specs.declared.row.ListRow.{ListRow}
use Rattle.rv_rows.specs.declared.row.ShareRow.{ShareRow}
use Rattle.rv_rows.specs.declared.row.TodoRow.{TodoRow}
use Rattle.rv_rows.specs.Extents.{AreLists, exact_lists}
use Rattle.rv_rows.specs.Members.{within, text_in, num_in, each_item, ids_in, lists_in, named, has_ended}
use Rattle.rv_rows.specs.RowTexts.{ids_data, row_data, RowIsWithin, role_then, past_role, extent_row_in, list_row_in, share_row_in, todo_row_in, either, share_or_todo_in, listed_row_in, row_in}

named_is : (k : List ℕ) (ms : Members) (x : Data × Members) → named k ms ≡ Some x → ms ≡ member k x.0 x.1
named_is k no_members x e = absurd (none-some x e)
named_is k (member l d ms) x e =
    let parts = cond_some (bytes_eq l k) (d, ms) x e in
    let same = (bytes_eq-Decides l k).0 parts.0 in
    rw (same, ← parts.1) refl

ended_is : (ms : Members) (u : Unit {0}) → has_ended ms ≡ Some u → ms ≡ no_members
ended_is no_members u e = refl
ended_is (member k d ms) u e = absurd (none-some u e)

within_is : (low high : ℕ) (s t : List ℕ) → within low high s ≡ Some t → (s ≡ t) × IsWithin low high s
within_is low high s t e = let parts = cond_some (leb low (length s) && leb (length s) high) s t e in (parts.1, grind (arith, nat_tests))

within_again : (low high : ℕ) (s : List ℕ) → IsWithin low high s → within low high s ≡ Some s
within_again low high s fits = grind (arith, nat_tests)

text_is : (low high : ℕ) (d : Data) (t : List ℕ) → text_in low high d ≡ Some t → (d ≡ string t) × IsWithin low high t
text_is low high (string s) t e = let parts = within_is low high s t e in (ap (λ (u : List ℕ). string u) parts.0, subst (λ (u : List ℕ). IsWithin low high u) parts.0 parts.1)
text_is low high null t e = absurd (none-some t e)
text_is low high (boolean b) t e = absurd (none-some t e)
text_is low high (number n) t e = absurd (none-some t e)
text_is low high (array ds) t e = absurd (none-some t e)
text_is low high (object ms) t e = absurd (none-some t e)

num_again : (n : ℕ) → n < 2 ^ 53 → num_in (number (unsigned n)) ≡ Some n
num_again n fits = grind (arith, nat_tests)

one_more : (k : List ℕ) (ms : Members) (x : Data × Members) (d : Data) (rest : Members) → named k ms ≡ Some x → x.0 ≡ d → x.1 ≡ rest → ms ≡ member k d rest
one_more k ms x d rest e p q = named_is k ms x e ∙ (λ i. member k (p i) (q i))

then : {A B P : Type 0} (o : Option A) (f : A → Option B) (y : B) → (o >>= f) ≡ Some y → ((x : A) → o ≡ Some x → f x ≡ Some y → P) → P
then (Some x) f y e next = next x refl e
then None f y e next = absurd (none-some y e)

-- what is read as ids is an array of them
each_is : (ds : Items) (ids : List (List ℕ)) → each_item (text_in 1 128) ds ≡ Some ids → (ds ≡ items_of (map (λ (id : List ℕ). string id) ids)) × AllByRecursion (IsWithin 1 128) ids
each_is no_items ids e = subst (λ (is : List (List ℕ)). (no_items ≡ items_of (map (λ (id : List ℕ). string id) is)) × AllByRecursion (IsWithin 1 128) is) (same_Some [] ids e) (refl, tt)
each_is (item d ds) ids e = then _ _ ids e (λ x ex f. then _ _ ids f (λ xs exs g. one_id x xs (text_is 1 128 d x ex) (each_is ds xs exs) g))
  where
    one_id : (x : List ℕ) (xs : List (List ℕ)) → (d ≡ string x) × IsWithin 1 128 x → (ds ≡ items_of (map (λ (id : List ℕ). string id) xs)) × AllByRecursion (IsWithin 1 128) xs → Some (x ∷ xs) ≡ Some ids
        → (item d ds ≡ items_of (map (λ (id : List ℕ). string id) ids)) × AllByRecursion (IsWithin 1 128) ids
    one_id x xs one rest g = subst (λ (is : List (List ℕ)). (item d ds ≡ items_of (map (λ (id : List ℕ). string id) is)) × AllByRecursion (IsWithin 1 128) is) (same_Some (x ∷ xs) ids g) ((λ i. item (one.0 i) (rest.0 i)), (one.1, rest.1))

ids_are : (d : Data) (ids : List (List ℕ)) → ids_in d ≡ Some ids → (d ≡ ids_data ids) × AllByRecursion (IsWithin 1 128) ids
ids_are (array ds) ids e = let parts = each_is ds ids e in (ap (λ (is : Items). array is) parts.0, parts.1)
ids_are null ids e = absurd (none-some ids e)
ids_are (boolean b) ids e = absurd (none-some ids e)
ids_are (number n) ids e = absurd (none-some ids e)
ids_are (string s) ids e = absurd (none-some ids e)
ids_are (object ms) ids e = absurd (none-some ids e)

each_again : (ids : List (List ℕ)) → AllByRecursion (IsWithin 1 128) ids → each_item (text_in 1 128) (items_of (map (λ (id : List ℕ). string id) ids)) ≡ Some ids
each_again [] all = refl
each_again (x ∷ xs) all = rw (within_again 1 128 x all.0, each_again xs all.1) refl

at_most_from : (n : ℕ) → leb n 64 ≡ true → n ≤ 64
at_most_from n e = grind (arith, nat_tests)

at_most_is : (n : ℕ) → n ≤ 64 → leb n 64 ≡ true
at_most_is n le = grind (arith, nat_tests)

-- ids that are taken as they stand are an extent's lists, and such lists are taken so
exact_are : (ids lists : List (List ℕ)) → exact_lists ids ≡ Some lists → (ids ≡ lists) × AreLists lists
exact_are ids lists e =
    let parts = cond_some (leb (length ids) 64 && is_in_order (λ (id : List ℕ). id) ids) ids lists e in
    let holds = and_parts (leb (length ids) 64) (is_in_order (λ (id : List ℕ). id) ids) parts.0 in
    (parts.1, subst AreLists parts.1 (in_order-from_test (λ (id : List ℕ). id) ids holds.1, at_most_from (length ids) holds.0))

exact_again : (ids : List (List ℕ)) → AreLists ids → exact_lists ids ≡ Some ids
exact_again ids fits = rw (at_most_is (length ids) fits.1, order_is (λ (id : List ℕ). id) ids fits.0) refl

lists_are : (d : Data) (lists : List (List ℕ)) → lists_in d ≡ Some lists → (d ≡ ids_data lists) × AllByRecursion (IsWithin 1 128) lists × AreLists lists
lists_are d lists e = taken (ids_in d) refl e
  where
    taken : (o : Option (List (List ℕ))) → ids_in d ≡ o → option_and_then exact_lists o ≡ Some lists → (d ≡ ids_data lists) × AllByRecursion (IsWithin 1 128) lists × AreLists lists
    taken None is f = absurd (none-some lists f)
    taken (Some ids) is f =
        let read = ids_are d ids is in
        let exact = exact_are ids lists f in
        (read.0 ∙ ap ids_data exact.0, subst (AllByRecursion (IsWithin 1 128)) exact.0 read.1, exact.1)

pub lists_again : (lists : List (List ℕ)) → AllByRecursion (IsWithin 1 128) lists → AreLists lists → lists_in (ids_data lists) ≡ Some lists
lists_again lists all fits = rw (each_again lists all) (exact_again lists fits)

extent_takes : (ms : Members) (r : ExtentRow) → extent_row_in ms ≡ Some r → (object ms ≡ row_data (variants.Extent r)) × RowIsWithin (variants.Extent r)
unfolding extent_row_in
extent_takes ms r e =
    then _ _ r e (λ a ea e. then _ _ r e (λ b eb e. then _ _ r e (λ d ed e. then _ _ r e (λ l el e. then _ _ r e (λ u eu e.
    extent_made ms a b d l u r ea eb ed (lists_are a.0 l el) (text_is 1 64 b.0 u eu) e)))))
  where
    extent_made : (ms : Members) (a b : Data × Members) (d : Unit {0}) (l : List (List ℕ)) (u : List ℕ) (r : ExtentRow) → named (codes "lists") ms ≡ Some a → named (codes "user") a.1 ≡ Some b → has_ended b.1 ≡ Some d
        → (a.0 ≡ ids_data l) × AllByRecursion (IsWithin 1 128) l × AreLists l → (b.0 ≡ string u) × IsWithin 1 64 u → Some (record { user = u; lists = l }) ≡ Some r → (object ms ≡ row_data (variants.Extent r)) × RowIsWithin (variants.Extent r)
    extent_made ms a b d l u r ea eb ed tl tu e =
        subst (λ (q : ExtentRow). (object ms ≡ row_data (variants.Extent q)) × RowIsWithin (variants.Extent q)) (same_Some (record { user = u; lists = l }) r e)
        (ap (λ (t : Members). object t) (one_more (codes "lists") ms a (ids_data l) _ ea tl.0 (one_more (codes "user") a.1 b (string u) _ eb tu.0 (ended_is b.1 d ed))), (tu.1, tl.1, tl.2))

list_takes : (ms : Members) (r : ListRow) → list_row_in ms ≡ Some r → (object ms ≡ row_data (variants.List r)) × RowIsWithin (variants.List r)
unfolding list_row_in
list_takes ms r e =
    then _ _ r e (λ a ea e. then _ _ r e (λ b eb e. then _ _ r e (λ c ec e. then _ _ r e (λ d ed e. then _ _ r e (λ i ei e. then _ _ r e (λ n en e. then _ _ r e (λ o eo e.
    list_made ms a b c d i n o r ea eb ec ed (text_is 1 128 a.0 i ei) (text_is 0 16384 b.0 n en) (text_is 1 64 c.0 o eo) e)))))))
  where
    list_made : (ms : Members) (a b c : Data × Members) (d : Unit {0}) (i n o : List ℕ) (r : ListRow) → named (codes "id") ms ≡ Some a → named (codes "name") a.1 ≡ Some b → named (codes "ownerID") b.1 ≡ Some c → has_ended c.1 ≡ Some d
        → (a.0 ≡ string i) × IsWithin 1 128 i → (b.0 ≡ string n) × IsWithin 0 16384 n → (c.0 ≡ string o) × IsWithin 1 64 o → Some (record { id = i; name = n; owner = o }) ≡ Some r → (object ms ≡ row_data (variants.List r)) × RowIsWithin (variants.List r)
    list_made ms a b c d i n o r ea eb ec ed ti tn to e =
        subst (λ (q : ListRow). (object ms ≡ row_data (variants.List q)) × RowIsWithin (variants.List q)) (same_Some (record { id = i; name = n; owner = o }) r e)
        (ap (λ (t : Members). object t) (one_more (codes "id") ms a (string i) _ ea ti.0 (one_more (codes "name") a.1 b (string n) _ eb tn.0 (one_more (codes "ownerID") b.1 c (string o) _ ec to.0 (ended_is c.1 d ed)))), (ti.1, tn.1, to.1))

-- a value that is read as a text is that text
str_is : (d : Data) (t : List ℕ) → as_str d ≡ Some t → d ≡ string t
str_is (string s) t e = ap (λ (u : List ℕ). string u) (same_Some s t e)
str_is null t e = absurd (none-some t e)
str_is (boolean b) t e = absurd (none-some t e)
str_is (number n) t e = absurd (none-some t e)
str_is (array ds) t e = absurd (none-some t e)
str_is (object ms) t e = absurd (none-some t e)

-- what is left after the role's member, of the members from it on
past_is : (role : Role) (ms rest : Members) → past_role role ms ≡ Some rest → ms ≡ role_then role rest
past_is roles.Edit ms rest e = same_Some ms rest e
past_is roles.View ms rest e = next _ (named (codes "role") ms) rest e (λ x ex e. next _ (as_str x.0) rest e (λ t et e.
    let parts = cond_some (bytes_eq t (codes "view")) x.1 rest e in
    one_more (codes "role") ms x (string (codes "view")) rest ex (str_is x.0 t et ∙ ap (λ (u : List ℕ). string u) ((bytes_eq-Decides t (codes "view")).0 parts.0)) parts.1))
  where
    next : {A B P : Type 0} (f : A → Option B) (o : Option A) (y : B) → option_and_then f o ≡ Some y → ((x : A) → o ≡ Some x → f x ≡ Some y → P) → P
    next f (Some x) y e then = then x refl e
    next f None y e then = absurd (none-some y e)

share_takes : (role : Role) (ms : Members) (r : ShareRow) → share_row_in role ms ≡ Some r → (object ms ≡ row_data (variants.Share r)) × RowIsWithin (variants.Share r)
unfolding share_row_in
share_takes role ms r e =
    then _ _ r e (λ a ea e. then _ _ r e (λ b eb e. then _ _ r e (λ p ep e. then _ _ r e (λ c ec e. then _ _ r e (λ d ed e. then _ _ r e (λ i ei e. then _ _ r e (λ l el e. then _ _ r e (λ u eu e.
    share_made ms a b p c d i l u r ea eb (past_is role b.1 p ep) ec ed (text_is 1 128 a.0 i ei) (text_is 1 128 b.0 l el) (text_is 1 64 c.0 u eu) e))))))))
  where
    share_made : (ms : Members) (a b : Data × Members) (p : Members) (c : Data × Members) (d : Unit {0}) (i l u : List ℕ) (r : ShareRow) → named (codes "id") ms ≡ Some a → named (codes "listID") a.1 ≡ Some b → b.1 ≡ role_then role p → named (codes "userID") p ≡ Some c → has_ended c.1 ≡ Some d
        → (a.0 ≡ string i) × IsWithin 1 128 i → (b.0 ≡ string l) × IsWithin 1 128 l → (c.0 ≡ string u) × IsWithin 1 64 u → Some (record { id = i; list = l; user = u; role = role }) ≡ Some r → (object ms ≡ row_data (variants.Share r)) × RowIsWithin (variants.Share r)
    share_made ms a b p c d i l u r ea eb ep ec ed ti tl tu e =
        subst (λ (q : ShareRow). (object ms ≡ row_data (variants.Share q)) × RowIsWithin (variants.Share q)) (same_Some (record { id = i; list = l; user = u; role = role }) r e)
        (ap (λ (t : Members). object t) (one_more (codes "id") ms a (string i) _ ea ti.0 (one_more (codes "listID") a.1 b (string l) _ eb tl.0 (ep ∙ ap (role_then role) (one_more (codes "userID") p c (string u) _ ec tu.0 (ended_is c.1 d ed))))), (ti.1, tl.1, tu.1))

bool_is : (d : Data) (b : Bool) → as_bool d ≡ Some b → d ≡ boolean b
bool_is (boolean c) b e = ap (λ (x : Bool). boolean x) (same_Some c b e)
bool_is null b e = absurd (none-some b e)
bool_is (string s) b e = absurd (none-some b e)
bool_is (number n) b e = absurd (none-some b e)
bool_is (array ds) b e = absurd (none-some b e)
bool_is (object ms) b e = absurd (none-some b e)

num_is : (d : Data) (n : ℕ) → num_in d ≡ Some n → (d ≡ number (unsigned n)) × (n < 2 ^ 53)
num_is (number (unsigned m)) n e = let parts = cond_some (nat_lt m (2 ^ 53)) m n e in (ap (λ (k : ℕ). number (unsigned k)) parts.1, grind (arith, nat_tests))
num_is (number (negative z)) n e = absurd (none-some n e)
num_is (number (float x)) n e = absurd (none-some n e)
num_is null n e = absurd (none-some n e)
num_is (boolean b) n e = absurd (none-some n e)
num_is (string s) n e = absurd (none-some n e)
num_is (array ds) n e = absurd (none-some n e)
num_is (object ms) n e = absurd (none-some n e)

todo_takes : (ms : Members) (r : TodoRow) → todo_row_in ms ≡ Some r → (object ms ≡ row_data (variants.Todo r)) × RowIsWithin (variants.Todo r)
unfolding todo_row_in
todo_takes ms r e =
    then _ _ r e (λ a ea e. then _ _ r e (λ b eb e. then _ _ r e (λ f ef e. then _ _ r e (λ g eg e. then _ _ r e (λ h eh e. then _ _ r e (λ d ed e. then _ _ r e (λ c ec e. then _ _ r e (λ i ei e. then _ _ r e (λ l el e. then _ _ r e (λ s es e. then _ _ r e (λ t et e.
    todo_made ms a b f g h d c i l s t r ea eb ef eg eh ed (bool_is a.0 c ec) (text_is 1 128 b.0 i ei) (text_is 1 128 f.0 l el) (num_is g.0 s es) (text_is 0 16384 h.0 t et) e)))))))))))
  where
    todo_made : (ms : Members) (a b f g h : Data × Members) (d : Unit {0}) (c : Bool) (i l : List ℕ) (s : ℕ) (t : List ℕ) (r : TodoRow) → named (codes "complete") ms ≡ Some a → named (codes "id") a.1 ≡ Some b → named (codes "listID") b.1 ≡ Some f → named (codes "sort") f.1 ≡ Some g → named (codes "text") g.1 ≡ Some h → has_ended h.1 ≡ Some d
        → a.0 ≡ boolean c → (b.0 ≡ string i) × IsWithin 1 128 i → (f.0 ≡ string l) × IsWithin 1 128 l → (g.0 ≡ number (unsigned s)) × (s < 2 ^ 53) → (h.0 ≡ string t) × IsWithin 0 16384 t → Some (record { id = i; list = l; text = t; complete = c; sort = s }) ≡ Some r → (object ms ≡ row_data (variants.Todo r)) × RowIsWithin (variants.Todo r)
    todo_made ms a b f g h d c i l s t r ea eb ef eg eh ed tc ti tl ts tt e =
        subst (λ (q : TodoRow). (object ms ≡ row_data (variants.Todo q)) × RowIsWithin (variants.Todo q)) (same_Some (record { id = i; list = l; text = t; complete = c; sort = s }) r e)
        (ap (λ (x : Members). object x) (one_more (codes "complete") ms a (boolean c) _ ea tc (one_more (codes "id") a.1 b (string i) _ eb ti.0 (one_more (codes "listID") b.1 f (string l) _ ef tl.0 (one_more (codes "sort") f.1 g (number (unsigned s)) _ eg ts.0 (one_more (codes "text") g.1 h (string t) _ eh tt.0 (ended_is h.1 d ed)))))), (ti.1, tl.1, tt.1, ts.1))

rest_takes : (ms : Members) (o p : Option ShareRow) (q : Option TodoRow) (r : Row) → share_row_in roles.Edit ms ≡ o → share_row_in roles.View ms ≡ p → todo_row_in ms ≡ q
    → either (option_map (λ r. variants.Share r) o) (either (option_map (λ r. variants.Share r) p) (option_map (λ r. variants.Todo r) q)) ≡ Some r → (object ms ≡ row_data r) × RowIsWithin r
rest_takes ms (Some x) p q r e f g h = subst (λ (r : Row). (object ms ≡ row_data r) × RowIsWithin r) (same_Some (variants.Share x) r h) (share_takes roles.Edit ms x e)
rest_takes ms None (Some x) q r e f g h = subst (λ (r : Row). (object ms ≡ row_data r) × RowIsWithin r) (same_Some (variants.Share x) r h) (share_takes roles.View ms x f)
rest_takes ms None None (Some x) r e f g h = subst (λ (r : Row). (object ms ≡ row_data r) × RowIsWithin r) (same_Some (variants.Todo x) r h) (todo_takes ms x g)
rest_takes ms None None None r e f g h = absurd (none-some r h)

listed_takes : (ms : Members) (o : Option ListRow) (r : Row) → list_row_in ms ≡ o → either (option_map (λ r. variants.List r) o) (share_or_todo_in ms) ≡ Some r → (object ms ≡ row_data r) × RowIsWithin r
listed_takes ms (Some x) r e h = subst (λ (r : Row). (object ms ≡ row_data r) × RowIsWithin r) (same_Some (variants.List x) r h) (list_takes ms x e)
listed_takes ms None r e h = rest_takes ms _ _ _ r refl refl refl h

members_takes : (ms : Members) (o : Option ExtentRow) (r : Row) → extent_row_in ms ≡ o → either (option_map (λ r. variants.Extent r) o) (listed_row_in ms) ≡ Some r → (object ms ≡ row_data r) × RowIsWithin r
members_takes ms (Some x) r e h = subst (λ (r : Row). (object ms ≡ row_data r) × RowIsWithin r) (same_Some (variants.Extent x) r h) (extent_takes ms x e)
members_takes ms None r e h = listed_takes ms _ r refl h

pub row_takes : (d : Data) (r : Row) → row_in d ≡ Some r → (d ≡ row_data r) × RowIsWithin r
row_takes (object ms) r e = members_takes ms _ r refl e
row_takes null r e = absurd (none-some r e)
row_takes (boolean b) r e = absurd (none-some r e)
row_takes (number n) r e = absurd (none-some r e)
row_takes (string s) r e = absurd (none-some r e)
row_takes (array ds) r e = absurd (none-some r e)

share_again : (id list user : List ℕ) (role : Role) → IsWithin 1 128 id → IsWithin 1 128 list → IsWithin 1 64 user
    → row_in (row_data (variants.Share (record { id = id; list = list; user = user; role = role }))) ≡ Some (variants.Share (record { id = id; list = list; user = user; role = role }))
unfolding extent_row_in list_row_in share_row_in todo_row_in
share_again id list user roles.View i l u = rw (within_again 1 128 id i, within_again 1 128 list l, within_again 1 64 user u) refl
share_again id list user roles.Edit i l u = rw (within_again 1 128 id i, within_again 1 128 list l, within_again 1 64 user u) refl

pub row_again : (r : Row) → RowIsWithin r → row_in (row_data r) ≡ Some r
unfolding extent_row_in list_row_in share_row_in todo_row_in
row_again (variants.Extent r) fits = rw (lists_again r.lists fits.1 fits.2, within_again 1 64 r.user fits.0) refl
row_again (variants.List r) fits = rw (within_again 1 128 r.id fits.0, within_again 0 16384 r.name fits.1, within_again 1 64 r.owner fits.2) refl
row_again (variants.Share r) fits = share_again r.id r.list r.user r.role fits.0 fits.1 fits.2
row_again (variants.Todo r) fits = rw (within_again 1 128 r.id fits.0, within_again 1 128 r.list fits.1, within_again 0 16384 r.text fits.2, num_again r.sort fits.3) refl

pub is_found : (d : Data) (o : Option Row) → o ≡ row_in d → IfSome o (λ r. (d ≡ row_data r) × RowIsWithin r)
is_found d (Some r) e = row_takes d r (sym e)
is_found d None e = tt
