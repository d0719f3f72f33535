-- What reads took from the octets of a source.
use Rattle.std.proofs.Common.{◌≡◌, ℕ, ◌+◌, ◌≤◌, ◌<◌, List, [], ◌++◌, None, Some, refl, sym, ap, ◌∙◌, subst, length, take, drop, arith, append-nil, length-append, take_all, drop_of_length-le}
use Rattle.std.proofs.lemmas.List.{take_at, drop_at, drop-drop, length-take, take-append-le}
use Rattle.std.proofs.Math.Seq.{take-add}
use Rattle.std.specs.declared.option.Option.{Option}
use Rattle.std.specs.Io.KnownBytes.{Consumes, IsAtEnd}
use Rattle.xt_outside.specs.Outside.{TakesUpTo, KeepsTold, Passes, PassesUpTo}

-- all that was left is no more than was asked for
pub takes_to_end : (n : ℕ) (a b : Option (List ℕ)) (bs : List ℕ) → Consumes a b bs → length bs ≤ n → IsAtEnd b → TakesUpTo n a b bs
takes_to_end n None b bs p le end = tt
takes_to_end n (Some x) None bs p le end = absurd p
takes_to_end n (Some x) (Some y) bs p le end =
    let same : x ≡ bs = p ∙ ap (λ l. bs ++ l) end ∙ append-nil bs in
    let short : length x ≤ n = subst (λ (l : List ℕ). length l ≤ n) (sym same) le in
    (sym same ∙ sym (take_all n x short), ap (λ (l : List ℕ). Some l) (end ∙ sym (drop_of_length-le x short)))

-- as many as were asked for
pub takes_all : (n : ℕ) (a b : Option (List ℕ)) (bs : List ℕ) → Consumes a b bs → length bs ≡ n → TakesUpTo n a b bs
takes_all n None b bs p e = tt
takes_all n (Some x) None bs p e = absurd p
takes_all n (Some x) (Some y) bs p e =
    (sym (ap (take n) p ∙ take_at bs y n e), ap (λ (l : List ℕ). Some l) (sym (ap (drop n) p ∙ drop_at bs y n e)))

pub takes_none : (a : Option (List ℕ)) → TakesUpTo 0 a a []
takes_none None = tt
takes_none (Some x) = (refl, refl)

-- what two reads took, one after the other
pub takes_more : (n m : ℕ) (a b c : Option (List ℕ)) (bs cs : List ℕ) → TakesUpTo n a b bs → TakesUpTo m b c cs → TakesUpTo (n + m) a c (bs ++ cs)
takes_more n m None b c bs cs p q = tt
takes_more n m (Some x) b c bs cs p q =
    let more = subst (λ (o : Option (List ℕ)). TakesUpTo m o c cs) p.1 q in
    (ap (λ l. l ++ cs) p.0 ∙ ap (λ l. take n x ++ l) more.0 ∙ sym (take-add n m x), more.1 ∙ ap (λ (l : List ℕ). Some l) (drop-drop m n x))

-- where the octets ended, more would not have been read
pub takes_short : (n m : ℕ) (a b : Option (List ℕ)) (bs : List ℕ) → TakesUpTo n a b bs → length bs < n → n ≤ m → TakesUpTo m a b bs
takes_short n m None b bs p lt le = tt
takes_short n m (Some x) b bs p lt le =
    let short : length x ≤ n = omega (arith, ap length p.0, length-take n x) in
    let shorter : length x ≤ m = omega arith in
    (p.0 ∙ take_all n x short ∙ sym (take_all m x shorter), p.1 ∙ ap (λ (l : List ℕ). Some l) (drop_of_length-le x short ∙ sym (drop_of_length-le x shorter)))

-- a text grew by a chunk that was filled
pub takes_chunk : (k : ℕ) (a b c : Option (List ℕ)) (text into rest new : List ℕ) → TakesUpTo (length text) a b text → TakesUpTo (length into) b c (take k into)
    → length into ≡ k → new ≡ text ++ take k (into ++ rest) → (TakesUpTo (length new) a c new) × (length new ≡ length text + length into)
takes_chunk k a b c text into rest new p q full e =
    let le : k ≤ length into = omega arith in
    let joined : new ≡ text ++ take k into = e ∙ ap (λ l. text ++ l) (take-append-le k into rest le) in
    let len : length new ≡ length text + length into = omega (arith, ap length joined, length-append text (take k into), length-take k into) in
    let both = takes_more (length text) (length into) a b c text (take k into) p q in
    (subst (λ (n : ℕ). TakesUpTo n a c new) (sym len) (subst (λ (l : List ℕ). TakesUpTo (length text + length into) a c l) (sym joined) both), len)

-- a chunk of which only a part was filled, behind what was read
pub takes_part : (m k : ℕ) (a b c : Option (List ℕ)) (text into rest new : List ℕ) → TakesUpTo (length text) a b text → TakesUpTo (length into) b c (take k into) → k < length into → length text + length into ≤ m → new ≡ text ++ take k (into ++ rest)
    → TakesUpTo m a c new
takes_part m k a b c text into rest new p q short fits e =
    let joined : new ≡ text ++ take k into = e ∙ ap (λ l. text ++ l) (take-append-le k into rest (omega arith)) in
    let len : length (text ++ take k into) < length text + length into = omega (arith, length-append text (take k into), length-take k into) in
    let both = takes_more (length text) (length into) a b c text (take k into) p q in
    subst (λ (l : List ℕ). TakesUpTo m a c l) (sym joined) (takes_short (length text + length into) m a c (text ++ take k into) both len fits)

pub told-same : {T : Type 0} (a : Option T) → KeepsTold a a
told-same None = tt
told-same (Some x) = refl

pub told-trans : {T : Type 0} (a b c : Option T) → KeepsTold a b → KeepsTold b c → KeepsTold a c
told-trans None b c p q = tt
told-trans (Some x) b c p q = let told = subst (λ o. KeepsTold o c) p q in told

-- octets that were passed over in two turns
pub passes-more : (n m count : ℕ) (a b c : Option (List ℕ)) (cs : List ℕ) → PassesUpTo n a b n → TakesUpTo m b c cs → length cs ≡ count → PassesUpTo (n + m) a c (n + count)
passes-more n m count a b c cs (bs, p, e) q f =
    (bs ++ cs, takes_more n m a b c bs cs p q, omega (arith, length-append bs cs))

pub passes-short : (n m k : ℕ) (a b : Option (List ℕ)) → PassesUpTo n a b k → k < n → n ≤ m → PassesUpTo m a b k
passes-short n m k a b (bs, p, e) lt le = (bs, takes_short n m a b bs p (omega arith) le, e)

pub passes-none : (a : Option (List ℕ)) → PassesUpTo 0 a a 0
passes-none a = ([], takes_none a, refl)

pub passes-all : (n : ℕ) (a b : Option (List ℕ)) → PassesUpTo n a b n → Passes n a b
passes-all n None b p = tt
passes-all n (Some x) b (bs, p, e) = (omega (arith, ap length p.0, length-take n x), p.1)
