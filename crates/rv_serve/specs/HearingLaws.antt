-- What is heard in turn.
use Rattle.std.proofs.Common.{◌≡◌, List, [], ◌++◌, Option, Some, None, sym, ap, ◌∙◌, append_assoc, append-nil}
use Rattle.rv_serve.specs.declared.heard.Heard.{Heard}
use Rattle.rv_serve.specs.Hearing.{Hears}

pub hears_nothing : (heard : Option (List Heard)) → Hears heard heard []
hears_nothing None = tt
hears_nothing (Some heard) = sym (append-nil heard)

pub hears_on : (first mid last : Option (List Heard)) (some more : List Heard) → Hears first mid some → Hears mid last more → Hears first last (some ++ more)
hears_on None mid None some more a b = tt
hears_on (Some first) mid None some more a b = tt
hears_on first None (Some last) some more a b = absurd b
hears_on None (Some mid) (Some last) some more a b = absurd a
hears_on (Some first) (Some mid) (Some last) some more a b = b ∙ ap (λ (l : List Heard). l ++ more) a ∙ append_assoc first some more
