-- Bytes are given one answer, whatever bytes follow.
use Rattle.std.proofs.Common.{◌≡◌, ℕ, ◌≤◌, ◌+◌, ◌-◌, ◌⊎◌, List, [], ◌++◌, length, take, Result, Ok, Err, inl, inr, true, false, refl, sym, ap, ◌∙◌, subst, arith, length-append}
use Rattle.std.proofs.lemmas.List.{take_all}
use Rattle.std.proofs.Math.Seq.{take-append-add}
use Rattle.httparse.specs.Grammar.{print_request, ReadsRequest}
use Rattle.httparse.proofs.GrammarLemmas.{ReadsRequest-append}
use Rattle.rv_http.specs.declared.http_end.HttpEnd.{HttpEnd}
use Rattle.rv_http.specs.declared.http_end.HttpEnd.TheVariants.{End, Cut, BadHead, HeadTooLarge, LengthRequired, BodyTooLarge, CodingNotServed, ReadFault, Memory}
use Rattle.rv_http.specs.Numbers.{head_limit}
use Rattle.rv_http.specs.declared.request.Request.{Request}
use Rattle.rv_http.specs.Heads.{Head, judge}
use Rattle.rv_http.specs.Scans.{IsOpen, HeadIsRefused}
use Rattle.rv_http.specs.Requests.{BeginsWithHead, Judged, Gives, IsPartial, Waits, window}
use Rattle.rv_http.specs.RequestLaws.{begins_more, gives_more, gives_one, same_head}
use Rattle.rv_http.specs.Properties.{IsRefusal, IsJudgement, IsRequest, IsThisRefusal}
use Rattle.rv_http.proofs.Refusing.{window_more, open_more, nothing_is_not_refused}
use Rattle.rv_http.proofs.Ends.{some_head}

judged_more : (bytes more : List ℕ) (e : HttpEnd) → Judged bytes (Err e) → Judged (bytes ++ more) (Err e)
judged_more bytes more e (head, rest, begins, judged) = (head, rest ++ more, begins_more bytes rest head more begins, judged)

pub stay : (bytes rest more rest' : List ℕ) (e : HttpEnd) → IsRefusal e → Gives bytes rest (Err e) → Gives (bytes ++ more) rest' (Err e)
stay bytes rest more rest' End r g = absurd r
stay bytes rest more rest' Cut r g = absurd r
stay bytes rest more rest' ReadFault r g = absurd r
stay bytes rest more rest' (BadHead true) r g = judged_more bytes more (BadHead true) g
stay bytes rest more rest' (BadHead false) r (inl refused) = inl (window_more bytes more refused)
stay bytes rest more rest' (BadHead false) r (inr g) = inr (judged_more bytes more (BadHead false) g)
stay bytes rest more rest' (HeadTooLarge true) r g = judged_more bytes more (HeadTooLarge true) g
stay bytes rest more rest' (HeadTooLarge false) r (inl (le, none)) = inl (omega (arith, le, length-append bytes more), open_more bytes more le none)
stay bytes rest more rest' (HeadTooLarge false) r (inr g) = inr (judged_more bytes more (HeadTooLarge false) g)
stay bytes rest more rest' LengthRequired r g = judged_more bytes more LengthRequired g
stay bytes rest more rest' (BodyTooLarge flag) r g = judged_more bytes more (BodyTooLarge flag) g
stay bytes rest more rest' (CodingNotServed flag) r g = judged_more bytes more (CodingNotServed flag) g
stay bytes rest more rest' (Memory flag) r (head, next, n, begins, judged, is) = (head, next ++ more, n, begins_more bytes next head more begins, judged, is)

-- a complete head stands within the first bytes that may be one
head_in_window : (bytes more : List ℕ) (head : Head) → (begins : BeginsWithHead bytes head more) → (rest : List ℕ) × ReadsRequest (window bytes) begins.tree rest
head_in_window bytes more head begins =
    let text = print_request begins.tree in
    let n = head_limit - length text in
    let all : head_limit ≡ length text + n = omega (arith, begins.within) in
    (take n more, (begins.reads.0, ap (take head_limit) begins.reads.1 ∙ ap (λ k. take k (text ++ more)) all ∙ take-append-add text more n))

head_is_not_refused : (bytes more : List ℕ) (head : Head) → BeginsWithHead bytes head more → HeadIsRefused (window bytes) → ⊥
head_is_not_refused bytes more head begins (never, outside) =
    let (rest, reads) = head_in_window bytes more head begins in
    never [] begins.tree (rest ++ []) (ReadsRequest-append (window bytes) begins.tree rest [] reads)

head_is_not_open : (bytes more : List ℕ) (head : Head) → BeginsWithHead bytes head more → IsOpen (window bytes) → ⊥
head_is_not_open bytes more head begins (none, may) = let (rest, reads) = head_in_window bytes more head begins in none begins.tree rest reads

refused_is_not_open : (bytes : List ℕ) → HeadIsRefused bytes → IsOpen bytes → ⊥
refused_is_not_open bytes (never, outside) (none, inl (more, tree, reads)) = never more tree [] reads
refused_is_not_open bytes (never, outside) (none, inr inside) = outside inside

-- why bytes are refused
abbrev Reason : List ℕ → HttpEnd → Type 0
Reason bytes e = Judged bytes (Err e) ⊎ (((e ≡ BadHead false) × HeadIsRefused (window bytes)) ⊎ ((e ≡ HeadTooLarge false) × (head_limit ≤ length bytes) × IsOpen (window bytes)))

reason : (bytes rest : List ℕ) (e : HttpEnd) → IsJudgement e → Gives bytes rest (Err e) → Reason bytes e
reason bytes rest End is g = absurd is
reason bytes rest Cut is g = absurd is
reason bytes rest ReadFault is g = absurd is
reason bytes rest (Memory flag) is g = absurd is
reason bytes rest (BadHead true) is g = inl g
reason bytes rest (BadHead false) is (inl refused) = inr (inl (refl, refused))
reason bytes rest (BadHead false) is (inr g) = inl g
reason bytes rest (HeadTooLarge true) is g = inl g
reason bytes rest (HeadTooLarge false) is (inl (le, waiting)) = inr (inr (refl, le, waiting))
reason bytes rest (HeadTooLarge false) is (inr g) = inl g
reason bytes rest LengthRequired is g = inl g
reason bytes rest (BodyTooLarge flag) is g = inl g
reason bytes rest (CodingNotServed flag) is g = inl g

same_error : {n : Result ℕ HttpEnd} (e f : HttpEnd) → n ≡ Err e → n ≡ Err f → e ≡ f
same_error e f p q = let both : ◌≡◌ {A = Result ℕ HttpEnd} (Err e) (Err f) = sym p ∙ q in cc

one_reason : (bytes : List ℕ) (e f : HttpEnd) → Reason bytes e → Reason bytes f → e ≡ f
one_reason bytes e f (inl (head, more, begins, judged)) (inl (head', more', begins', judged')) =
    same_error e f judged (ap judge (same_head bytes more more' head head' begins begins').0 ∙ judged')
one_reason bytes e f (inl (head, more, begins, judged)) (inr (inl (is, refused))) = absurd (head_is_not_refused bytes more head begins refused)
one_reason bytes e f (inl (head, more, begins, judged)) (inr (inr (is, le, waiting))) = absurd (head_is_not_open bytes more head begins waiting)
one_reason bytes e f (inr (inl (is, refused))) (inl (head, more, begins, judged)) = absurd (head_is_not_refused bytes more head begins refused)
one_reason bytes e f (inr (inl (is, refused))) (inr (inl (is', refused'))) = is ∙ sym is'
one_reason bytes e f (inr (inl (is, refused))) (inr (inr (is', le, waiting))) = absurd (refused_is_not_open (window bytes) refused waiting)
one_reason bytes e f (inr (inr (is, le, waiting))) (inl (head, more, begins, judged)) = absurd (head_is_not_open bytes more head begins waiting)
one_reason bytes e f (inr (inr (is, le, waiting))) (inr (inl (is', refused))) = absurd (refused_is_not_open (window bytes) refused waiting)
one_reason bytes e f (inr (inr (is, le, waiting))) (inr (inr (is', le', waiting'))) = is ∙ sym is'

no_reason : (bytes : List ℕ) (e : HttpEnd) (n : ℕ) → Judged bytes (Ok n) → Reason bytes e → ⊥
no_reason bytes e n (head, more, begins, judged) (inl (head', more', begins', judged')) =
    let both : ◌≡◌ {A = Result ℕ HttpEnd} (Ok n) (Err e) = sym judged ∙ ap judge (same_head bytes more more' head head' begins begins').0 ∙ judged' in cc
no_reason bytes e n (head, more, begins, judged) (inr (inl (is, refused))) = head_is_not_refused bytes more head begins refused
no_reason bytes e n (head, more, begins, judged) (inr (inr (is, le, waiting))) = head_is_not_open bytes more head begins waiting

in_window : (bytes : List ℕ) → IsPartial bytes → IsOpen (window bytes)
in_window bytes (lt, waiting) = subst IsOpen (sym (take_all head_limit bytes (omega (arith, lt)))) waiting

refused_waits_not : (bytes : List ℕ) (e : HttpEnd) → Reason bytes e → Waits bytes → ⊥
refused_waits_not bytes e r (inr (head, more, n, begins, judged, lt)) = no_reason bytes e n (head, more, begins, judged) r
refused_waits_not bytes e (inl (head, more, begins, judged)) (inl partial) = head_is_not_open bytes more head begins (in_window bytes partial)
refused_waits_not bytes e (inr (inl (is, refused))) (inl partial) = refused_is_not_open (window bytes) refused (in_window bytes partial)
refused_waits_not bytes e (inr (inr (is, le, waiting))) (inl (lt, partial)) = omega (arith, le, lt)

request_waits_not : (bytes rest : List ℕ) (request : Request) → Gives bytes rest (Ok request) → Waits bytes → ⊥
request_waits_not bytes rest request (head, more, body, begins, judged, split, is) (inl partial) = head_is_not_open bytes more head begins (in_window bytes partial)
request_waits_not bytes rest request (head, more, body, begins, judged, split, is) (inr (head', more', n, begins', judged', lt)) =
    let (h, m) = same_head bytes more more' head head' begins begins' in
    let both : ◌≡◌ {A = Result ℕ HttpEnd} (Ok (length body)) (Ok n) = sym judged ∙ ap judge h ∙ judged' in
    let size : length body ≡ n = cc in
    omega (arith, size, lt, ap length (sym m ∙ split), length-append body rest)

-- a request is whole: no other answer comes
request_only : (bytes rest rest' : List ℕ) (request : Request) (result : Result Request HttpEnd) → Gives bytes rest (Ok request) → Gives bytes rest' result → IsRequest request rest rest' result
request_only bytes rest rest' request (Ok request') g o = gives_one bytes rest rest' request request' g o
request_only bytes rest rest' request (Err (Memory flag)) g o = tt
request_only bytes rest rest' request (Err End) (head, more, body, begins, judged, split, is) o = omega (arith, some_head bytes more head begins, ap length o)
request_only bytes rest rest' request (Err Cut) g (some, waits) = request_waits_not bytes rest request g waits
request_only bytes rest rest' request (Err ReadFault) g waits = request_waits_not bytes rest request g waits
request_only bytes rest rest' request (Err (BadHead flag)) (head, more, body, begins, judged, split, is) o = no_reason bytes _ _ (head, more, begins, judged) (reason bytes rest' (BadHead flag) tt o)
request_only bytes rest rest' request (Err (HeadTooLarge flag)) (head, more, body, begins, judged, split, is) o = no_reason bytes _ _ (head, more, begins, judged) (reason bytes rest' (HeadTooLarge flag) tt o)
request_only bytes rest rest' request (Err LengthRequired) (head, more, body, begins, judged, split, is) o = no_reason bytes _ _ (head, more, begins, judged) (reason bytes rest' LengthRequired tt o)
request_only bytes rest rest' request (Err (BodyTooLarge flag)) (head, more, body, begins, judged, split, is) o = no_reason bytes _ _ (head, more, begins, judged) (reason bytes rest' (BodyTooLarge flag) tt o)
request_only bytes rest rest' request (Err (CodingNotServed flag)) (head, more, body, begins, judged, split, is) o = no_reason bytes _ _ (head, more, begins, judged) (reason bytes rest' (CodingNotServed flag) tt o)

pub one_request : (bytes rest more rest' : List ℕ) (request : Request) (result : Result Request HttpEnd) → Gives bytes rest (Ok request) → Gives (bytes ++ more) rest' result → IsRequest request (rest ++ more) rest' result
one_request bytes rest more rest' request result g o = request_only (bytes ++ more) (rest ++ more) rest' request result (gives_more bytes rest request more g) o

-- before its first byte nothing is refused
none_is_refused : (bytes : List ℕ) (e : HttpEnd) → bytes ≡ [] → Reason bytes e → ⊥
none_is_refused bytes e empty (inl (head, more, begins, judged)) = omega (arith, some_head bytes more head begins, ap length empty)
none_is_refused bytes e empty (inr (inl (is, refused))) = nothing_is_not_refused (subst HeadIsRefused (ap window empty ∙ take_all head_limit [] (omega arith)) refused)
none_is_refused bytes e empty (inr (inr (is, le, waiting))) = omega (arith, le, ap length empty)

refusal_only : (bytes rest' : List ℕ) (e : HttpEnd) (result : Result Request HttpEnd) → Reason bytes e → Gives bytes rest' result → IsThisRefusal e result
refusal_only bytes rest' e (Ok request) r (head, more, body, begins, judged, split, is) = no_reason bytes e (length body) (head, more, begins, judged) r
refusal_only bytes rest' e (Err (Memory flag)) r (head, more, n, begins, judged, is) = no_reason bytes e n (head, more, begins, judged) r
refusal_only bytes rest' e (Err End) r o = none_is_refused bytes e o r
refusal_only bytes rest' e (Err Cut) r (some, waits) = refused_waits_not bytes e r waits
refusal_only bytes rest' e (Err ReadFault) r waits = refused_waits_not bytes e r waits
refusal_only bytes rest' e (Err (BadHead flag)) r o = one_reason bytes e (BadHead flag) r (reason bytes rest' (BadHead flag) tt o)
refusal_only bytes rest' e (Err (HeadTooLarge flag)) r o = one_reason bytes e (HeadTooLarge flag) r (reason bytes rest' (HeadTooLarge flag) tt o)
refusal_only bytes rest' e (Err LengthRequired) r o = one_reason bytes e LengthRequired r (reason bytes rest' LengthRequired tt o)
refusal_only bytes rest' e (Err (BodyTooLarge flag)) r o = one_reason bytes e (BodyTooLarge flag) r (reason bytes rest' (BodyTooLarge flag) tt o)
refusal_only bytes rest' e (Err (CodingNotServed flag)) r o = one_reason bytes e (CodingNotServed flag) r (reason bytes rest' (CodingNotServed flag) tt o)

judged_stays : (e : HttpEnd) → IsJudgement e → IsRefusal e
judged_stays End is = absurd is
judged_stays Cut is = absurd is
judged_stays ReadFault is = absurd is
judged_stays (Memory flag) is = absurd is
judged_stays (BadHead flag) is = tt
judged_stays (HeadTooLarge flag) is = tt
judged_stays LengthRequired is = tt
judged_stays (BodyTooLarge flag) is = tt
judged_stays (CodingNotServed flag) is = tt

pub one_refusal : (bytes rest more rest' : List ℕ) (e : HttpEnd) (result : Result Request HttpEnd) → IsJudgement e → Gives bytes rest (Err e) → Gives (bytes ++ more) rest' result → IsThisRefusal e result
one_refusal bytes rest more rest' e result is g o =
    refusal_only (bytes ++ more) rest' e result (reason (bytes ++ more) rest e is (stay bytes rest more rest e (judged_stays e is) g)) o
