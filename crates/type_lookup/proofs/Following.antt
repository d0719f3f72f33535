-- A frame or the first bad one, whatever octets follow those that were read.
use Rattle.std.proofs.Common.{◌≡◌, ◌≢◌, ℕ, inl, inr, ◌≤◌, ◌<◌, List, [], ◌∷◌, ◌++◌, None, Some, Result, Ok, Err, sym, ap, ◌∙◌, refl, subst, length, take, drop, append-nil, length-append, arith}
use Rattle.std.proofs.lemmas.List.{take-append-le, drop-append-le}
use Rattle.std.proofs.lemmas.Bool.{cases_lt, cases_eq}
use Rattle.std.proofs.lemmas.Grind.{common_steps}
use Rattle.std.specs.Int.{w32, from_be_bytes}
use Rattle.std.specs.declared.option.Option.{Option}
use Rattle.std.specs.Io.KnownBytes.{prepend_known}
use Rattle.type_lookup.specs.declared.messages.messages.Message.{Message}
use Rattle.type_lookup.specs.declared.faults.FrameFault.{FrameFault}
use Rattle.type_lookup.specs.declared.faults.FrameFault.TheVariants.{LinkFault, Truncated, TooLong, BadMessage, OutOfMemory}
use Rattle.type_lookup.specs.messages.Fields.{Field, got, bad, payload}
use Rattle.type_lookup.specs.Frames.{Front, no_frame, framed, broken, filled, sized, lengthy, front, ReadsFrame, FrontIs}

-- a front that stands whatever follows, with what follows behind it
abbrev pub followed : Front → List ℕ → Front
followed no_frame rest = front rest
followed (framed message behind) rest = framed message (behind ++ rest)
followed (broken fault) rest = broken fault

-- the octets did not end too early
abbrev pub IsWhole : Front → Type 0
IsWhole no_frame = ⊥
IsWhole (framed message rest) = Unit {0}
IsWhole (broken LinkFault) = Unit {0}
IsWhole (broken Truncated) = ⊥
IsWhole (broken (TooLong n)) = Unit {0}
IsWhole (broken (BadMessage at)) = Unit {0}
IsWhole (broken OutOfMemory) = Unit {0}

filled-followed : (n : ℕ) (field : Field Message) (behind rest : List ℕ) → filled n field (behind ++ rest) ≡ followed (filled n field behind) rest
filled-followed n (got message none) behind rest = refl
filled-followed n (bad left) behind rest = refl

pub sized-cut : (n : ℕ) (octets : List ℕ) → n ≢ 0 → n ≤ 262144 → length octets < n → sized n octets ≡ broken Truncated
sized-cut n octets some le lt = grind (arith, common_steps)

pub sized-full : (n : ℕ) (octets : List ℕ) → n ≢ 0 → n ≤ 262144 → n ≤ length octets → sized n octets ≡ filled n (payload (take n octets)) (drop n octets)
sized-full n octets some le long = grind (arith, common_steps)

pub sized-long : (n : ℕ) (octets : List ℕ) → 262144 < n → sized n octets ≡ broken (TooLong n)
sized-long n octets lt = grind (arith, common_steps)

full-followed : (n : ℕ) (octets rest : List ℕ) → n ≢ 0 → n ≤ 262144 → n ≤ length octets → sized n (octets ++ rest) ≡ followed (sized n octets) rest
full-followed n octets rest some le long =
    let longer : n ≤ length (octets ++ rest) = omega (arith, length-append octets rest) in
    sized-full n (octets ++ rest) some le longer
    ∙ ap (λ t. filled n (payload t) (drop n (octets ++ rest))) (take-append-le n octets rest long)
    ∙ ap (filled n (payload (take n octets))) (drop-append-le n octets rest long)
    ∙ filled-followed n (payload (take n octets)) (drop n octets) rest
    ∙ ap (λ f. followed f rest) (sym (sized-full n octets some le long))

sized-followed : (n : ℕ) (octets rest : List ℕ) → IsWhole (sized n octets) → sized n (octets ++ rest) ≡ followed (sized n octets) rest
sized-followed n octets rest h =
    elim (cases_eq n 0) [
      | inl e ↦ ap (λ k. sized k (octets ++ rest)) e ∙ ap (λ k. followed (sized k octets) rest) (sym e)
      | inr some ↦ elim (cases_lt 262144 n) [
        | inl long ↦ sized-long n (octets ++ rest) long ∙ ap (λ f. followed f rest) (sym (sized-long n octets long))
        | inr le ↦ elim (cases_lt (length octets) n) [
          | inl short ↦ absurd (subst IsWhole (sized-cut n octets some le short) h)
          | inr full ↦ full-followed n octets rest some le full
        ]
      ]
    ]

pub lengthy-cut : (octets : List ℕ) → length octets < 4 → lengthy octets ≡ broken Truncated
lengthy-cut octets lt = grind (arith, common_steps)

pub lengthy-full : (octets : List ℕ) → 4 ≤ length octets → lengthy octets ≡ sized (from_be_bytes w32 (take 4 octets)) (drop 4 octets)
lengthy-full octets le = grind (arith, common_steps)

lengthy-followed : (octets rest : List ℕ) → IsWhole (lengthy octets) → lengthy (octets ++ rest) ≡ followed (lengthy octets) rest
lengthy-followed octets rest h =
    elim (cases_lt (length octets) 4) [
      | inl short ↦ absurd (subst IsWhole (lengthy-cut octets short) h)
      | inr long ↦
          let longer : 4 ≤ length (octets ++ rest) = omega (arith, length-append octets rest) in
          lengthy-full (octets ++ rest) longer
          ∙ ap (λ t. sized (from_be_bytes w32 t) (drop 4 (octets ++ rest))) (take-append-le 4 octets rest long)
          ∙ ap (sized (from_be_bytes w32 (take 4 octets))) (drop-append-le 4 octets rest long)
          ∙ sized-followed (from_be_bytes w32 (take 4 octets)) (drop 4 octets) rest (subst IsWhole (lengthy-full octets long) h)
          ∙ ap (λ f. followed f rest) (sym (lengthy-full octets long))
    ]

pub front-followed : (octets rest : List ℕ) → IsWhole (front octets) → front (octets ++ rest) ≡ followed (front octets) rest
unfolding front
front-followed [] rest h = absurd h
front-followed (octet ∷ octets) rest h = lengthy-followed (octet ∷ octets) rest h

no-untold : (all octets : List ℕ) → Some all ≡ prepend_known octets None → ⊥
no-untold all octets e = cc

some-same : (a b : List ℕ) → Some a ≡ Some b → a ≡ b
some-same a b e = cc

-- what is said of the octets that were read, of all that were left
whole-front : (octets all rest : List ℕ) (f : Front) → Some all ≡ prepend_known octets (Some rest) → front octets ≡ f → IsWhole f → front all ≡ followed f rest
whole-front octets all rest f e p h =
    let same : all ≡ octets ++ rest = some-same all (octets ++ rest) e in
    ap front same ∙ front-followed octets rest (subst IsWhole (sym p) h) ∙ ap (λ k. followed k rest) p

pub front_is : (g h l m : Option (List ℕ)) (result : Result (Option Message) FrameFault) → ReadsFrame g h l m result → FrontIs l result m
unfolding front
front_is g h None m result p = tt
front_is g h (Some all) None (Ok None) p = absurd (no-untold all p.0 p.1.1)
front_is g h (Some all) (Some rest) (Ok None) p =
    let none : rest ≡ [] = p.2.1 in
    let same : all ≡ [] = some-same all (p.0 ++ rest) p.1.1 ∙ ap (λ o. o ++ rest) p.2.0 ∙ none in
    (ap front same, ap (λ (r : List ℕ). Some r) none)
front_is g h (Some all) None (Ok (Some message)) p = absurd (no-untold all p.0 p.1.1)
front_is g h (Some all) (Some rest) (Ok (Some message)) p = whole-front p.0 all rest (framed message []) p.1.1 p.2.0 tt
front_is g h (Some all) None (Err LinkFault) p = tt
front_is g h (Some all) (Some rest) (Err LinkFault) p = tt
front_is g h (Some all) None (Err OutOfMemory) p = tt
front_is g h (Some all) (Some rest) (Err OutOfMemory) p = tt
front_is g h (Some all) None (Err Truncated) p = absurd (no-untold all p.0 p.1.1)
front_is g h (Some all) (Some rest) (Err Truncated) p =
    let none : rest ≡ [] = p.2.1 in
    let same : all ≡ p.0 = some-same all (p.0 ++ rest) p.1.1 ∙ ap (λ r. p.0 ++ r) none ∙ append-nil p.0 in
    ap front same ∙ p.2.0
front_is g h (Some all) None (Err (TooLong n)) p = absurd (no-untold all p.0 p.1.1)
front_is g h (Some all) (Some rest) (Err (TooLong n)) p = whole-front p.0 all rest (broken (TooLong n)) p.1.1 p.2.0 tt
front_is g h (Some all) None (Err (BadMessage at)) p = absurd (no-untold all p.0 p.1.1)
front_is g h (Some all) (Some rest) (Err (BadMessage at)) p = whole-front p.0 all rest (broken (BadMessage at)) p.1.1 p.2.0 tt
