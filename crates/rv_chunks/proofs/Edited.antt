-- The items of chunks after an edit of one chunk.
use Rattle.std.proofs.Common.{◌≡◌, ℕ, zero, suc, ◌+◌, ◌<◌, ◌≤◌, List, [], ◌∷◌, ◌++◌, length, map, get_or, set, take, drop, refl, sym, ap, ◌∙◌, subst, arith, append_assoc, length-append, length-set}
use Rattle.std.specs.List.{insert, remove}
use Rattle.std.specs.Prelude.{Vec}
use Rattle.std.proofs.lemmas.List.{set-append_left, set-append_right, map-set, map-append, take-map, drop-map, get_or-map, length-map, get_or-append-add, get_or_append_left, get_or_default}
use Rattle.std.proofs.lemmas.List.Edits.{insert-append_left, insert-append_right, remove-append_left, remove-append_right}
use Rattle.rv_chunks.specs.Chunking.{items}
use Rattle.rv_chunks.specs.Vectors.{lists, AreChunks, HaveItems}

module _ {A : Type 0} where
  -- an edit within the middle one of three parts
  insert_mid : (xs ys zs : List A) (o : ℕ) (x : A) → o ≤ length ys → insert (xs ++ (ys ++ zs)) (length xs + o) x ≡ xs ++ (insert ys o x ++ zs)
  insert_mid xs ys zs o x le =
      insert-append_right xs (ys ++ zs) (length xs) (length xs + o) x refl (omega arith)
      ∙ ap (λ (k : ℕ). xs ++ insert (ys ++ zs) k x) (omega arith)
      ∙ ap (λ (t : List A). xs ++ t) (insert-append_left ys zs o x le)

  remove_mid : (xs ys zs : List A) (o : ℕ) → o < length ys → remove (xs ++ (ys ++ zs)) (length xs + o) ≡ xs ++ (remove ys o ++ zs)
  remove_mid xs ys zs o lt =
      remove-append_right xs (ys ++ zs) (length xs) (length xs + o) refl (omega arith)
      ∙ ap (λ (k : ℕ). xs ++ remove (ys ++ zs) k) (omega arith)
      ∙ ap (λ (t : List A). xs ++ t) (remove-append_left ys zs o lt)

  set_mid : (xs ys zs : List A) (o : ℕ) (x : A) → o < length ys → set (xs ++ (ys ++ zs)) (length xs + o) x ≡ xs ++ (set ys o x ++ zs)
  set_mid xs ys zs o x lt =
      set-append_right xs (ys ++ zs) (length xs) (length xs + o) x refl (omega arith)
      ∙ ap (λ (k : ℕ). xs ++ set (ys ++ zs) k x) (omega arith)
      ∙ ap (λ (t : List A). xs ++ t) (set-append_left ys zs o x lt)

  get_mid : (xs ys zs : List A) (o : ℕ) (d : A) → o < length ys → get_or (xs ++ (ys ++ zs)) (length xs + o) d ≡ get_or ys o d
  get_mid xs ys zs o d lt = get_or-append-add xs (ys ++ zs) o d ∙ get_or_append_left ys zs d o lt

  -- the items before a chunk, in it and after it
  pub items_at : (chunks : List (List A)) (n : ℕ) → n < length chunks → items chunks ≡ items (take n chunks) ++ (get_or chunks n [] ++ items (drop (suc n) chunks))
  items_at [] n lt = absurd (omega arith)
  items_at (p ∷ ps) zero lt = refl
  items_at (p ∷ ps) (suc n) lt = ap (λ (t : List A). p ++ t) (items_at ps n (omega arith)) ∙ sym (append_assoc p (items (take n ps)) (get_or ps n [] ++ items (drop (suc n) ps)))

  items_set : (chunks : List (List A)) (n : ℕ) (q : List A) → n < length chunks → items (set chunks n q) ≡ items (take n chunks) ++ (q ++ items (drop (suc n) chunks))
  items_set [] n q lt = absurd (omega arith)
  items_set (p ∷ ps) zero q lt = refl
  items_set (p ∷ ps) (suc n) q lt = ap (λ (t : List A). p ++ t) (items_set ps n q (omega arith)) ∙ sym (append_assoc p (items (take n ps)) (q ++ items (drop (suc n) ps)))

  items_two : (chunks : List (List A)) (n : ℕ) (q r : List A) → n < length chunks → items (insert (set chunks n q) (suc n) r) ≡ items (take n chunks) ++ ((q ++ r) ++ items (drop (suc n) chunks))
  items_two [] n q r lt = absurd (omega arith)
  items_two (p ∷ ps) zero q r lt = sym (append_assoc q r (items ps))
  items_two (p ∷ ps) (suc n) q r lt = ap (λ (t : List A). p ++ t) (items_two ps n q r (omega arith)) ∙ sym (append_assoc p (items (take n ps)) ((q ++ r) ++ items (drop (suc n) ps)))

  items_without : (chunks : List (List A)) (n : ℕ) → n < length chunks → items (remove chunks n) ≡ items (take n chunks) ++ items (drop (suc n) chunks)
  items_without [] n lt = absurd (omega arith)
  items_without (p ∷ ps) zero lt = refl
  items_without (p ∷ ps) (suc n) lt = ap (λ (t : List A). p ++ t) (items_without ps n (omega arith)) ∙ sym (append_assoc p (items (take n ps)) (items (drop (suc n) ps)))

  pub items-append : (ps qs : List (List A)) → items (ps ++ qs) ≡ items ps ++ items qs
  items-append [] qs = refl
  items-append (p ∷ ps) qs = ap (λ (t : List A). p ++ t) (items-append ps qs) ∙ sym (append_assoc p (items ps) (items qs))

  -- an edit of one chunk is an edit of the items
  put_one : (chunks : List (List A)) (n o : ℕ) (x : A) (q : List A) → n < length chunks → o ≤ length (get_or chunks n []) → q ≡ insert (get_or chunks n []) o x → items (set chunks n q) ≡ insert (items chunks) (length (items (take n chunks)) + o) x
  put_one chunks n o x q lt le is =
      let front = items (take n chunks) in
      let back = items (drop (suc n) chunks) in
      items_set chunks n q lt
      ∙ ap (λ (t : List A). front ++ (t ++ back)) is
      ∙ sym (insert_mid front (get_or chunks n []) back o x le)
      ∙ ap (λ (t : List A). insert t (length front + o) x) (sym (items_at chunks n lt))

  put_two : (chunks : List (List A)) (n o : ℕ) (x : A) (q r : List A) → n < length chunks → o ≤ length (get_or chunks n []) → q ++ r ≡ insert (get_or chunks n []) o x → items (insert (set chunks n q) (suc n) r) ≡ insert (items chunks) (length (items (take n chunks)) + o) x
  put_two chunks n o x q r lt le is =
      let front = items (take n chunks) in
      let back = items (drop (suc n) chunks) in
      items_two chunks n q r lt
      ∙ ap (λ (t : List A). front ++ (t ++ back)) is
      ∙ sym (insert_mid front (get_or chunks n []) back o x le)
      ∙ ap (λ (t : List A). insert t (length front + o) x) (sym (items_at chunks n lt))

  take_one : (chunks : List (List A)) (n o : ℕ) (q : List A) → n < length chunks → o < length (get_or chunks n []) → q ≡ remove (get_or chunks n []) o → items (set chunks n q) ≡ remove (items chunks) (length (items (take n chunks)) + o)
  take_one chunks n o q lt le is =
      let front = items (take n chunks) in
      let back = items (drop (suc n) chunks) in
      items_set chunks n q lt
      ∙ ap (λ (t : List A). front ++ (t ++ back)) is
      ∙ sym (remove_mid front (get_or chunks n []) back o le)
      ∙ ap (λ (t : List A). remove t (length front + o)) (sym (items_at chunks n lt))

  only : (chunk : List A) (o : ℕ) → length chunk ≡ 1 → o < length chunk → remove chunk o ≡ []
  only [] o one lt = absurd (omega arith)
  only (x ∷ []) zero one lt = refl
  only (x ∷ []) (suc o) one lt = absurd (omega arith)
  only (x ∷ y ∷ ys) o one lt = absurd (omega arith)

  take_chunk : (chunks : List (List A)) (n o : ℕ) → n < length chunks → length (get_or chunks n []) ≡ 1 → o < length (get_or chunks n []) → items (remove chunks n) ≡ remove (items chunks) (length (items (take n chunks)) + o)
  take_chunk chunks n o lt one le =
      let front = items (take n chunks) in
      let back = items (drop (suc n) chunks) in
      items_without chunks n lt
      ∙ ap (λ (t : List A). front ++ (t ++ back)) (sym (only (get_or chunks n []) o one le))
      ∙ sym (remove_mid front (get_or chunks n []) back o le)
      ∙ ap (λ (t : List A). remove t (length front + o)) (sym (items_at chunks n lt))

  pub set_one : (chunks : List (List A)) (n o : ℕ) (x : A) → n < length chunks → o < length (get_or chunks n []) → items (set chunks n (set (get_or chunks n []) o x)) ≡ set (items chunks) (length (items (take n chunks)) + o) x
  set_one chunks n o x lt le =
      let front = items (take n chunks) in
      let back = items (drop (suc n) chunks) in
      items_set chunks n (set (get_or chunks n []) o x) lt
      ∙ sym (set_mid front (get_or chunks n []) back o x le)
      ∙ ap (λ (t : List A). set t (length front + o) x) (sym (items_at chunks n lt))

  -- the item at a position
  pub get_one : (chunks : List (List A)) (n o : ℕ) (d : A) → n < length chunks → o < length (get_or chunks n []) → get_or (items chunks) (length (items (take n chunks)) + o) d ≡ get_or (get_or chunks n []) o d
  get_one chunks n o d lt le = ap (λ (t : List A). get_or t (length (items (take n chunks)) + o) d) (items_at chunks n lt) ∙ get_mid (items (take n chunks)) (get_or chunks n []) (items (drop (suc n) chunks)) o d le

  -- chunks that are seen through a function
  module _ {X : Type 0} (f : X → List A) where
    pub read : (vs : List X) (n : ℕ) (v : X) → n < length vs → v ≡ get_or vs n v → f v ≡ get_or (map f vs) n []
    read vs n v lt is = ap f is ∙ sym (get_or-map f vs n v [] lt)

    pub put_there : (vs : List X) (n o : ℕ) (x : A) (v w : X) → n < length vs → v ≡ get_or vs n v → o ≤ length (get_or (map f vs) n []) → f w ≡ insert (f v) o x → items (map f (set vs n w)) ≡ insert (items (map f vs)) (length (items (take n (map f vs))) + o) x
    put_there vs n o x v w lt is le edit =
        ap items (map-set f vs n w)
        ∙ put_one (map f vs) n o x (f w) (rw (length-map vs f) lt) le (edit ∙ ap (λ (t : List A). insert t o x) (read vs n v lt is))

    map-insert : (vs : List X) (n : ℕ) (v : X) → map f (insert vs n v) ≡ insert (map f vs) n (f v)
    map-insert vs n v = map-append f (take n vs) (v ∷ drop n vs) ∙ rw (take-map f n vs, drop-map f n vs) refl

    map-remove : (vs : List X) (n : ℕ) → map f (remove vs n) ≡ remove (map f vs) n
    map-remove vs n = map-append f (take n vs) (drop (suc n) vs) ∙ rw (take-map f n vs, drop-map f (suc n) vs) refl

    pub split_there : (vs : List X) (n m o : ℕ) (x : A) (v w u : X) → n < length vs → m ≡ suc n → v ≡ get_or vs n v → o ≤ length (get_or (map f vs) n []) → f w ++ f u ≡ insert (f v) o x → items (map f (insert (set vs n w) m u)) ≡ insert (items (map f vs)) (length (items (take n (map f vs))) + o) x
    split_there vs n m o x v w u lt next is le edit =
        ap items (map-insert (set vs n w) m u)
        ∙ (λ i. items (insert (map-set f vs n w i) (next i) (f u)))
        ∙ put_two (map f vs) n o x (f w) (f u) (rw (length-map vs f) lt) le (edit ∙ ap (λ (t : List A). insert t o x) (read vs n v lt is))

    pub take_there : (vs : List X) (n o : ℕ) (v w : X) → n < length vs → v ≡ get_or vs n v → o < length (get_or (map f vs) n []) → f w ≡ remove (f v) o → items (map f (set vs n w)) ≡ remove (items (map f vs)) (length (items (take n (map f vs))) + o)
    take_there vs n o v w lt is le edit =
        ap items (map-set f vs n w)
        ∙ take_one (map f vs) n o (f w) (rw (length-map vs f) lt) le (edit ∙ ap (λ (t : List A). remove t o) (read vs n v lt is))

    pub take_chunk_there : (vs : List X) (n o : ℕ) (v : X) → n < length vs → v ≡ get_or vs n v → length (f v) ≡ 1 → o < length (get_or (map f vs) n []) → items (map f (remove vs n)) ≡ remove (items (map f vs)) (length (items (take n (map f vs))) + o)
    take_chunk_there vs n o v lt is one le =
        ap items (map-remove vs n)
        ∙ take_chunk (map f vs) n o (rw (length-map vs f) lt) (sym (ap length (read vs n v lt is)) ∙ one) le

    pub set_there : (vs : List X) (n o : ℕ) (x : A) (v w : X) → n < length vs → v ≡ get_or vs n v → f w ≡ set (f v) o x → map f (set vs n w) ≡ set (map f vs) n (set (get_or (map f vs) n []) o x)
    set_there vs n o x v w lt is edit = map-set f vs n w ∙ ap (λ (t : List A). set (map f vs) n t) (edit ∙ ap (λ (t : List A). set t o x) (read vs n v lt is))

    pub get_there : (vs : List X) (n o : ℕ) (r : A) (v : X) → n < length vs → v ≡ get_or vs n v → o < length (f v) → r ≡ get_or (f v) o r → (d : A) → r ≡ get_or (items (map f vs)) (length (items (take n (map f vs))) + o) d
    get_there vs n o r v lt is le at d =
        let chunk : f v ≡ get_or (map f vs) n [] = read vs n v lt is in
        at ∙ get_or_default (f v) o r d le ∙ ap (λ (t : List A). get_or t o d) chunk
        ∙ sym (get_one (map f vs) n o d (rw (length-map vs f) lt) (rw chunk at le))

    pub get_item : (vs : List X) (chunks : List (List A)) (n o : ℕ) (r : A) (v : X) → map f vs ≡ chunks → n < length chunks → o < length (get_or chunks n []) → v ≡ get_or vs n v → r ≡ get_or (f v) o r → (d : A) → r ≡ get_or (items chunks) (length (items (take n chunks)) + o) d
    get_item vs chunks n o r v e lt le is at d =
        subst (λ (ps : List (List A)). n < length ps → o < length (get_or ps n []) → r ≡ get_or (items ps) (length (items (take n ps)) + o) d) e
        (λ lt le. let in_range : n < length vs = rw (length-map vs f) at lt in get_there vs n o r v in_range is (rw (← read vs n v in_range is) at le) at d)
        lt le

  -- the item that is written over another
  pub set_item : (chunks old new : List (List A)) (n o : ℕ) (x : A) → old ≡ chunks → new ≡ set old n (set (get_or old n []) o x) → n < length chunks → o < length (get_or chunks n []) → items new ≡ set (items chunks) (length (items (take n chunks)) + o) x
  set_item chunks old new n o x e is lt le = ap items (is ∙ ap (λ (ps : List (List A)). set ps n (set (get_or ps n []) o x)) e) ∙ set_one chunks n o x lt le

  lengths-set : (chunks : List (List A)) (n k : ℕ) (q : List A) → length q ≡ length (get_or chunks n []) → length (items (take k (set chunks n q))) ≡ length (items (take k chunks))
  lengths-set [] n k q same = refl
  lengths-set (p ∷ ps) n zero q same = lengths-none n
    where
      lengths-none : (n : ℕ) → length (items (take zero (set (p ∷ ps) n q))) ≡ 0
      lengths-none zero = refl
      lengths-none (suc n) = refl
  lengths-set (p ∷ ps) zero (suc k) q same = length-append q (items (take k ps)) ∙ ap (λ (m : ℕ). m + length (items (take k ps))) same ∙ sym (length-append p (items (take k ps)))
  lengths-set (p ∷ ps) (suc n) (suc k) q same = length-append p (items (take k (set ps n q))) ∙ ap (λ (m : ℕ). length p + m) (lengths-set ps n k q same) ∙ sym (length-append p (items (take k ps)))

  -- each position has as many items before it
  pub index-set : (chunks old new : List (List A)) (n o : ℕ) (x : A) (k m : ℕ) → old ≡ chunks → new ≡ set old n (set (get_or old n []) o x) → length (items (take k new)) + m ≡ length (items (take k chunks)) + m
  index-set chunks old new n o x k m e is =
      ap (λ (ps : List (List A)). length (items (take k ps)) + m) (is ∙ ap (λ (ps : List (List A)). set ps n (set (get_or ps n []) o x)) e)
      ∙ ap (λ (i : ℕ). i + m) (lengths-set chunks n k (set (get_or chunks n []) o x) (length-set (get_or chunks n []) o x))

  -- the last position
  pub index_last : (chunks : List (List A)) (n o : ℕ) → suc n ≡ length chunks → o ≡ length (get_or chunks n []) → length (items (take n chunks)) + o ≡ length (items chunks)
  index_last [] n o e is = absurd (omega arith)
  index_last (p ∷ []) zero o e is = omega (arith, length-append p [])
  index_last (p ∷ q ∷ ps) zero o e is = absurd (omega arith)
  index_last (p ∷ ps) (suc n) o e is = omega (arith, length-append p (items (take n ps)), length-append p (items ps), index_last ps n o (omega arith) is)

  -- each chunk that stands has an item
  pub have_items : {Z : Type 0} (most : ℕ) (vs : List (Vec A Z)) → AreChunks most vs → HaveItems (lists vs)
  have_items most [] all = tt
  have_items most (v ∷ vs) all = ((all 0 v (omega arith)).some, have_items most vs (λ k d lt. all (suc k) d (omega arith)))
