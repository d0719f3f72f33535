-- Reading the items of a list, one after another.
use Rattle.std.proofs.Common.{◌≡◌, ℕ, suc, ◌+◌, ◌-◌, ◌<◌, List, [], ◌∷◌, ◌++◌, Err, sym, ap, ◌∙◌, refl, append_assoc, append-nil, arith}
use Rattle.type_lookup.specs.declared.messages.messages.PayloadFault.{PayloadFault}
use Rattle.type_lookup.specs.declared.messages.messages.PayloadFault.TheVariants.{BadField, OutOfMemory}
use Rattle.type_lookup.specs.messages.Fields.{Field, got, bad, then_read, put_first, put_all, times, at_most, counted_at, Reads}

pub put-none : {T : Type 0} (f : Field (List T)) → put_all [] f ≡ f
put-none (got values rest) = refl
put-none (bad left) = refl

put-one : {T : Type 0} (xs : List T) (x : T) (f : Field (List T)) → put_all xs (put_first x f) ≡ put_all (xs ++ x ∷ []) f
put-one xs x (got values rest) = ap (λ l. got l rest) (sym (append_assoc xs (x ∷ []) values))
put-one xs x (bad left) = refl

-- So many items stand for those that were read and those that are still to be read.
abbrev pub HasRead : {T : Type 0} → (List ℕ → Field T) → ℕ → ℕ → List ℕ → List T → List ℕ → Type 0
HasRead item n i octets values rest = times item n octets ≡ put_all values (times item (n - i) rest)

pub read-none : {T : Type 0} (item : List ℕ → Field T) (n : ℕ) (octets : List ℕ) → HasRead item n 0 octets [] octets
read-none item n octets = let same : n ≡ n - 0 = omega arith in ap (λ k. times item k octets) same ∙ sym (put-none (times item (n - 0) octets))

pub read-one : {T : Type 0} (item : List ℕ → Field T) (n i j : ℕ) (octets rest end : List ℕ) (values all : List T) (value : T)
    → HasRead item n i octets values rest → i < n → j ≡ i + 1 → item rest ≡ got value end → all ≡ values ++ value ∷ [] → HasRead item n j octets all end
read-one item n i j octets rest end values all value h lt next e grown =
    let more : n - i ≡ suc (n - j) = omega arith in
    h ∙ ap (λ k. put_all values (times item k rest)) more
    ∙ ap (λ f. put_all values (then_read f (λ v r. put_first v (times item (n - j) r)))) e
    ∙ put-one values value (times item (n - j) end)
    ∙ ap (λ l. put_all l (times item (n - j) end)) (sym grown)

pub read-bad : {T : Type 0} (item : List ℕ → Field T) (n i left : ℕ) (octets rest : List ℕ) (values : List T)
    → HasRead item n i octets values rest → i < n → item rest ≡ bad left → times item n octets ≡ bad left
read-bad item n i left octets rest values h lt e =
    let more : n - i ≡ suc (n - (i + 1)) = omega arith in
    h ∙ ap (λ k. put_all values (times item k rest)) more
    ∙ ap (λ f. put_all values (then_read f (λ v r. put_first v (times item (n - (i + 1)) r)))) e

pub read-all : {T : Type 0} (item : List ℕ → Field T) (n : ℕ) (octets rest : List ℕ) (values : List T) → HasRead item n n octets values rest → times item n octets ≡ got values rest
read-all item n octets rest values h =
    let none : n - n ≡ 0 = omega arith in
    h ∙ ap (λ k. put_all values (times item k rest)) none ∙ ap (λ l. got l rest) (append-nil values)

-- an item stopped the reading, and so the whole
pub read-stopped : {T : Type 0} (item : List ℕ → Field T) (n i : ℕ) (octets behind rest end after : List ℕ) (values : List T) (stop : PayloadFault)
    → at_most 1024 octets ≡ got n behind → HasRead item n i behind values rest → i < n → Reads (item rest) (Err stop) end → Reads (counted_at item octets) (Err stop) after
read-stopped item n i octets behind rest end after values (BadField left) e h lt p =
    ap (λ f. then_read f (times item)) e ∙ read-bad item n i left behind rest values h lt p
read-stopped item n i octets behind rest end after values OutOfMemory e h lt p = tt
