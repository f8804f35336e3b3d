-- The puts of keys, one after another.
use Rattle.std.proofs.Common.{◌≡◌, ℕ, ◌+◌, ◌<◌, get_or, take, map, ◌++◌, List, [], ◌∷◌, Option, Some, None, length, refl, sym, ap, ◌∙◌, append_assoc, append-nil}
use Rattle.std.specs.List.{filter_map, cons_option}
use Rattle.std.proofs.lemmas.List.{take_more}
use Rattle.std.proofs.lemmas.List.Elements.{filter_map-append}
use Rattle.std.specs.Borrow.{Bor}
use Rattle.rv_rows.specs.declared.key.Key.{Key}
use Rattle.rv_rows.specs.declared.row.Row.{Row}
use Rattle.rv_rows.specs.Held.{Stored}
use Rattle.rv_turns.specs.declared.op.Op.{Op}
use Rattle.rv_turns.specs.declared.op.Op.TheVariants.{Put}
use Rattle.rv_sharing.specs.Gathered.{keys_at, rows_at, Stand}
use Rattle.rv_news.specs.Shows.{put_of}

-- the puts of some keys go on by one key
puts_more : (stored : List Stored) (keys : List Key) (i : ℕ) (x : Key) → i < length keys → x ≡ get_or keys i x → filter_map (put_of stored) (take (i + 1) keys) ≡ filter_map (put_of stored) (take i keys) ++ cons_option (put_of stored x) []
puts_more stored keys i x lt is =
    ap (filter_map (put_of stored)) (take_more keys i x lt ∙ ap (λ (y : Key). take i keys ++ y ∷ []) (sym is))
    ∙ filter_map-append (put_of stored) (take i keys) (x ∷ [])

pub put_more : (stored : List Stored) (keys : List Key) (i : ℕ) (x : Key) (start ops new : List Op) (op : Op) → i < length keys → x ≡ get_or keys i x → ops ≡ start ++ filter_map (put_of stored) (take i keys)
    → new ≡ ops ++ op ∷ [] → put_of stored x ≡ Some op → new ≡ start ++ filter_map (put_of stored) (take (i + 1) keys)
put_more stored keys i x start ops new op lt is before pushed put =
    pushed ∙ ap (λ (t : List Op). t ++ op ∷ []) before ∙ append_assoc start (filter_map (put_of stored) (take i keys)) (op ∷ [])
    ∙ ap (λ (t : List Op). start ++ t) (ap (λ (o : Option Op). filter_map (put_of stored) (take i keys) ++ cons_option o []) (sym put) ∙ sym (puts_more stored keys i x lt is))

pub put_same : (stored : List Stored) (keys : List Key) (i : ℕ) (x : Key) (start ops new : List Op) → i < length keys → x ≡ get_or keys i x → ops ≡ start ++ filter_map (put_of stored) (take i keys)
    → new ≡ ops → put_of stored x ≡ None → new ≡ start ++ filter_map (put_of stored) (take (i + 1) keys)
put_same stored keys i x start ops new lt is before same put =
    same ∙ before ∙ ap (λ (t : List Op). start ++ t) (sym (append-nil (filter_map (put_of stored) (take i keys))) ∙ ap (λ (o : Option Op). filter_map (put_of stored) (take i keys) ++ cons_option o []) (sym put) ∙ sym (puts_more stored keys i x lt is))

-- the puts of the keys of rows that stand are the puts of the rows
pub puts_stand : (stored : List Stored) (rows : List (Bor Row × ℕ)) → Stand stored (rows_at rows) → filter_map (put_of stored) (map (λ pair. pair.0) (keys_at rows)) ≡ map (λ (row : Bor Row × ℕ). Put row.0.now) rows
puts_stand stored [] stand = refl
puts_stand stored (row ∷ rows) stand = rw stand.0 (ap (λ (t : List Op). Put row.0.now ∷ t) (puts_stand stored rows stand.1))
