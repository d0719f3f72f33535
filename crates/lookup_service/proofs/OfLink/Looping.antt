-- What a link to the service itself has done, one call after another.
use Rattle.std.proofs.Common.{◌≡◌, ℕ, ◌+◌, ◌-◌, ◌<◌, Bool, List, [], ◌∷◌, ◌++◌, true, false, length, take, drop, Some, refl, sym, ap, subst, ◌∙◌, append-nil, append_assoc, take-append-drop, arith}
use Rattle.std.proofs.lemmas.List.{take_rest}
use Rattle.std.proofs.Math.Seq.{take-length, take-add}
use Rattle.xt_io.specs.Links.{Held, is_nothing}
use Rattle.type_registry.specs.Passed.{PassView}
use Rattle.lookup_service.specs.declared.ended.Ended.{Ended}
use Rattle.lookup_service.specs.declared.ended.Ended.TheVariants.{Closed}
use Rattle.lookup_service.specs.Sessions.{EndsBy}
use Rattle.lookup_service.specs.chains.Chains.{IsEntry, Chain, got_of, taken_of}
use Rattle.lookup_service.proofs.OfChains.Chaining.{chain_more, got_more, taken_more}
use Rattle.lookup_service.specs.link.Loops.{LoopView, HandsOver, IsLoop, no_pass}

-- the link, by its replies and how many of their octets were given
abbrev pub loop_of : PassView → List ℕ → ℕ → ℕ → List ℕ → Bool → ℕ → LoopView
loop_of pass taken handed at replies over faults = record { pass = pass; taken = taken; handed = handed; given = take at replies; coming = drop at replies; over = over; faults = faults }

true_not : {X : Type 0} → true ≡ false → X
true_not e = absurd (cc)

-- ---- octets taken and given

module _ (name : List ℕ → List ℕ) (p : PassView) (taken : List ℕ) (handed at : ℕ) (replies : List ℕ) (over : Bool) (faults : ℕ) (is : IsLoop name (loop_of p taken handed at replies over faults)) where
  same_replies : (n : ℕ) → take n replies ++ drop n replies ≡ take at replies ++ drop at replies
  same_replies n = take-append-drop n replies ∙ sym (take-append-drop at replies)

  pub loop_given : (n : ℕ) → IsLoop name (loop_of p taken handed n replies over faults)
  loop_given n = record {
    entries = is.entries;
    chain = is.chain;
    within = is.within;
    good = is.good;
    heard = is.heard;
    begun = is.begun;
    replied = λ e. same_replies n ∙ is.replied e;
    some = (is.some.0, is.some.1 ∙ ap (λ (o : List ℕ). o ++ is.some.0) (sym (same_replies n)));
  }

-- ---- octets handed over

closed_whole : (end : Ended) (count long : ℕ) (behind left : List ℕ) → end ≡ Closed → EndsBy end count long behind (Some left) → left ≡ []
closed_whole end count long behind left e ends = let is : EndsBy Closed count long behind (Some left) = subst (λ x. EndsBy x count long behind (Some left)) e ends in is.2

module _ (name : List ℕ → List ℕ) (p q : PassView) (taken : List ℕ) (handed at : ℕ) (replies sent : List ℕ) (faults : ℕ) (end : Ended) (same : q.registry ≡ p.registry) (hands : HandsOver name p q (drop handed taken) sent end) (is : IsLoop name (loop_of p taken handed at replies false faults)) where
  abbrev entry : Held
  entry = record { got = hands.got; taken = sent; faults = hands.faults; ended = is_nothing hands.left }

  is_entry : IsEntry name false p q entry
  is_entry = record { sound = hands.sound; ended = end; left = hands.left; session = hands.session; at_end = refl; cause = hands.cause; memory = λ e. absurd (cc) }

  longer : Chain name false (no_pass q.registry) (is.entries ++ entry ∷ []) q
  longer = subst (λ (r : List ℕ). Chain name false (no_pass r) (is.entries ++ entry ∷ []) q) (sym same) (chain_more name false (no_pass p.registry) p q is.entries entry is.chain is_entry)

  -- all octets taken: what the sessions got, and what the last one left
  parted : taken ≡ got_of (is.entries ++ entry ∷ []) ++ hands.left
  parted = sym (take-append-drop handed taken) ∙ ap (λ o. o ++ drop handed taken) (is.heard refl) ∙ ap (λ o. got_of is.entries ++ o) hands.cut ∙ sym (append_assoc (got_of is.entries) hands.got hands.left) ∙ ap (λ (o : List ℕ). o ++ hands.left) (sym (got_more is.entries entry))

  all_sent : replies ≡ taken_of is.entries
  all_sent = sym (take-append-drop at replies) ∙ is.replied (is.good refl)

  -- the replies were kept
  now_sent : replies ++ sent ≡ taken_of (is.entries ++ entry ∷ [])
  now_sent = ap (λ o. o ++ sent) all_sent ∙ sym (taken_more is.entries entry)

  all_now : take at (replies ++ sent) ++ drop at (replies ++ sent) ≡ taken_of (is.entries ++ entry ∷ [])
  all_now = take-append-drop at (replies ++ sent) ∙ now_sent

  heard_now : (over : Bool) → (over ≡ false → end ≡ Closed) → over ≡ false → take (length taken) taken ≡ got_of (is.entries ++ entry ∷ [])
  heard_now over ends e =
      let none = closed_whole end (length hands.session.requests) (length hands.session.ahead) hands.session.behind hands.left (ends e) hands.session.ends in
      take-length taken ∙ parted ∙ ap (λ (o : List ℕ). got_of (is.entries ++ entry ∷ []) ++ o) none ∙ append-nil (got_of (is.entries ++ entry ∷ []))

  pub loop_kept : (over : Bool) → (over ≡ false → end ≡ Closed) → IsLoop name (loop_of q taken (length taken) at (replies ++ sent) over faults)
  loop_kept over ends = record {
    entries = is.entries ++ entry ∷ [];
    chain = longer;
    within = omega arith;
    good = λ e. is.good refl;
    heard = heard_now over ends;
    begun = (hands.left, parted);
    replied = λ e. all_now;
    some = ([], sym all_now ∙ sym (append-nil (take at (replies ++ sent) ++ drop at (replies ++ sent))));
  }

  -- the replies were lost
  pub loop_lost : (risen : ℕ) → 0 < risen → IsLoop name (loop_of q taken (length taken) at replies true risen)
  loop_lost risen more = record {
    entries = is.entries ++ entry ∷ [];
    chain = longer;
    within = omega arith;
    good = λ e. true_not e;
    heard = λ e. true_not e;
    begun = (hands.left, parted);
    replied = λ e. absurd (omega (arith, e, more));
    some = (sent, sym now_sent ∙ ap (λ (o : List ℕ). o ++ sent) (sym (take-append-drop at replies)));
  }

-- ---- reads

given_more : (at n : ℕ) (replies into : List ℕ) → take n into ≡ take n (drop at replies) → take (at + n) replies ≡ take at replies ++ take n into
given_more at n replies into e = take-add at n replies ∙ ap (λ o. take at replies ++ o) (sym e)

-- what a read gave was added
pub given_now : (given : List ℕ) (at n : ℕ) (replies into : List ℕ) → given ≡ take at replies → take n into ≡ take n (take (length replies - at) (drop at replies)) → Some (take (at + n) replies) ≡ Some (given ++ take n into)
given_now given at n replies into same e = ap (λ (o : List ℕ). Some o) (given_more at n replies into (e ∙ ap (λ o. take n o) (take_rest replies at)) ∙ ap (λ o. o ++ take n into) (sym same))

pub over_not : (name : List ℕ → List ℕ) (p : PassView) (taken : List ℕ) (handed at : ℕ) (replies : List ℕ) (over : Bool) (faults : ℕ) → over ≡ false → IsLoop name (loop_of p taken handed at replies over faults) → IsLoop name (loop_of p taken handed at replies false faults)
over_not name p taken handed at replies over faults e is = subst (λ o. IsLoop name (loop_of p taken handed at replies o faults)) e is

-- what was waiting was all that was taken and not handed over yet
pub all_waiting : (name : List ℕ → List ℕ) (p q : PassView) (all taken : List ℕ) (handed : ℕ) (sent : List ℕ) (end : Ended) → all ≡ taken → HandsOver name p q (take (length all - handed) (drop handed all)) sent end → HandsOver name p q (drop handed taken) sent end
all_waiting name p q all taken handed sent end same is = subst (λ o. HandsOver name p q (drop handed o) sent end) same (subst (λ o. HandsOver name p q o sent end) (take_rest all handed) is)
