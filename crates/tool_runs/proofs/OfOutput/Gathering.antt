-- What a block holds, and what the sink took of it.
use Rattle.std.proofs.Common.{◌≡◌, ℕ, List, [], ◌++◌, None, Some, Result, Ok, Err, refl, sym, ap, ◌∙◌, subst, append_assoc, append-nil}
use Rattle.std.proofs.lemmas.List.{append_cancel_left}
use Rattle.std.specs.declared.option.Option.{Option}
use Rattle.std.specs.Io.KnownBytes.{Appends, Keeps}
use Rattle.std.proofs.KnownBytes.{Appends-trans, Appends-kept}
use Rattle.xt_io.specs.Outside.{AppendsPrefix}
use Rattle.tool_runs.specs.declared.output.ending.Style.{Style}
use Rattle.tool_runs.specs.declared.output.halt.Halt.{Halt}
use Rattle.tool_runs.specs.declared.output.halt.Halt.TheVariants as halts
use Rattle.tool_runs.specs.declared.output.stop.Stop.{Stop}
use Rattle.tool_runs.specs.declared.output.stop.Stop.TheVariants as stops
use Rattle.tool_runs.specs.output.Outputs.{Output, text_of}
use Rattle.tool_runs.specs.output.Runs.{Leads, Steps, Writes, told_refusal}
use Rattle.tool_runs.specs.output.Blocks.{reached, Grew, HandsOn}
use Rattle.tool_runs.specs.declared.output.turns.Next.{Next}
use Rattle.tool_runs.proofs.OfOutput.Written.{text_after}
use Rattle.tool_runs.proofs.OfOutput.Turning.{halts_on}
use Rattle.std.specs.List.{concat}

-- ---- the same text between other ends

leads_over : (first last : Option Output) (a b c d : Option (List ℕ)) → ((text : List ℕ) → Appends a b text → Appends c d text) → Leads first last a b → Leads first last c d
leads_over None last a b c d f p = tt
leads_over (Some first) None a b c d f p = absurd p
leads_over (Some first) (Some last) a b c d f p = (p.0, p.1, f _ p.2)

writes_over : (first : Option Output) (halt : Halt) (a b c d : Option (List ℕ)) → ((text : List ℕ) → Appends a b text → Appends c d text) → Writes first (Err halt) a b → Writes first (Err halt) c d
writes_over None halt a b c d f p = tt
writes_over (Some output) halts.ReadFault a b c d f p = (p.0, p.1, p.2, f _ p.3)
writes_over (Some output) halts.WriteFault a b c d f p = (p.0, p.1, p.2, f _ p.3)
writes_over (Some output) halts.OutOfMemory a b c d f p = (p.0, p.1, p.2, f _ p.3)

pub steps_over : {T : Type 0} (style : Style) (first rest : Option Output) (result : Result T Stop) (a b c d : Option (List ℕ)) → ((text : List ℕ) → Appends a b text → Appends c d text) → Steps style first rest result a b → Steps style first rest result c d
steps_over style first rest (Ok t) a b c d f p = leads_over first rest a b c d f p
steps_over style first rest (Err (stops.Refused r)) a b c d f p = leads_over first (told_refusal style first r) a b c d f p
steps_over style first rest (Err (stops.Halted halt)) a b c d f p = writes_over first halt a b c d f p

-- ---- what the sink took

pub empty_reached : (start taken : Option (List ℕ)) (text : List ℕ) → Appends start taken text → Appends start (reached taken []) text
empty_reached None taken text p = tt
empty_reached (Some a) None text p = absurd p
empty_reached (Some a) (Some b) text p = append-nil b ∙ p

-- some of what was handed on, or all of it
pub grew_some : (start old new : Option (List ℕ)) (held : List ℕ) → Grew start old → AppendsPrefix old new held → Grew start new
grew_some start old new held p q = (p.0 ++ q.0, Appends-trans start old new p.0 q.0 p.1 q.3)

-- handed on twice
pub some_twice : (old mid new : Option (List ℕ)) (before now : List ℕ) → AppendsPrefix old mid before → Keeps (reached old before) (reached mid now) → AppendsPrefix mid new now → AppendsPrefix old new before
some_twice None mid new before now p k q = ([], before, refl, tt)
some_twice (Some a) None new before now p k q = absurd p.3
some_twice (Some a) (Some b) None before now p k q = absurd q.3
some_twice (Some a) (Some b) (Some c) before now p k q =
    let (some, back, split, took) = p in
    let (more, rest, cut, taken) = q in
    let same : a ++ (some ++ now) ≡ a ++ before = sym (append_assoc a some now) ∙ ap (λ l. l ++ now) (sym took) ∙ k in
    let whole : some ++ now ≡ before = append_cancel_left a (some ++ now) before same in
    (some ++ more, rest, sym whole ∙ ap (λ l. some ++ l) cut ∙ sym (append_assoc some more rest), taken ∙ ap (λ l. l ++ more) took ∙ append_assoc a some more)

-- the sink failed, and what it took is a beginning of the text
pub cut_short : (start old new : Option (List ℕ)) (held text : List ℕ) → Grew start old → AppendsPrefix old new held → AppendsPrefix start (reached old held) text → AppendsPrefix start new text
cut_short None old new held text g p q = ([], text, refl, tt)
cut_short (Some a) None new held text g p q = absurd g.1
cut_short (Some a) (Some b) None held text g p q = absurd p.3
cut_short (Some a) (Some b) (Some c) held text g p q =
    let (some, back, split, took) = p in
    let (front, rest, cut, whole) = q in
    let joined : a ++ front ≡ a ++ (g.0 ++ held) = sym whole ∙ ap (λ l. l ++ held) g.1 ∙ append_assoc a g.0 held in
    let begun : front ≡ (g.0 ++ some) ++ back = append_cancel_left a front (g.0 ++ held) joined ∙ ap (λ l. g.0 ++ l) split ∙ sym (append_assoc g.0 some back) in
    (g.0 ++ some, back ++ rest, cut ∙ ap (λ l. l ++ rest) begun ∙ append_assoc (g.0 ++ some) back rest, took ∙ ap (λ l. l ++ some) g.1 ∙ append_assoc a g.0 some)

-- ---- a step is a beginning of the text

leads_begun : (first : Output) (last : Option Output) (a b : Option (List ℕ)) → Leads (Some first) last a b → AppendsPrefix a b (text_of first)
leads_begun first None a b p = absurd p
leads_begun first (Some last) a b p = (concat p.0, text_of last, text_after first last p.0 p.1, p.2)

writes_begun : (first : Output) (halt : Halt) (a b : Option (List ℕ)) → Writes (Some first) (Err halt) a b → AppendsPrefix a b (text_of first)
writes_begun first halts.ReadFault a b p =
    let (pieces, rest, split, appended) = p in
    (concat pieces, text_of rest, text_after first rest pieces split, subst (Appends a b) (append-nil (concat pieces)) appended)
writes_begun first halts.WriteFault a b p = p
writes_begun first halts.OutOfMemory a b p = p

steps_begun : {T : Type 0} (style : Style) (first : Output) (rest : Option Output) (result : Result T Stop) (a b : Option (List ℕ)) → Steps style (Some first) rest result a b → AppendsPrefix a b (text_of first)
steps_begun style first rest (Ok t) a b p = leads_begun first rest a b p
steps_begun style first rest (Err (stops.Refused r)) a b p = leads_begun first (told_refusal style (Some first) r) a b p
steps_begun style first rest (Err (stops.Halted halt)) a b p = writes_begun first halt a b p

-- a step after which the sink failed
pub steps_cut : {T : Type 0} (B : Type 0) (style : Style) (first rest more : Option Output) (result : Result T Stop) (start old new : Option (List ℕ)) (held : List ℕ) → Grew start old → AppendsPrefix old new held → Steps style first rest result start (reached old held)
    → Steps {T = B} style first more (Err (stops.Halted halts.WriteFault)) start new
steps_cut B style None rest more result start old new held g p q = tt
steps_cut B style (Some first) rest more result start old new held g p q = cut_short start old new held (text_of first) g p (steps_begun style first rest result start (reached old held) q)

-- ---- the next record

-- what the block held was handed on, or is held still
pub gathered_goes : (first rest : Option Output) (start now new : Option (List ℕ)) → Leads first rest start now → Keeps now new → Leads first rest start new
gathered_goes first rest start now new p k = leads_over first rest start now start new (λ text a. Appends-kept start now new text a k) p

-- nothing more can be read, or the sink failed
pub gathered_halts : (style : Style) (first rest : Option Output) (halt : Halt) (start old new : Option (List ℕ)) (before now : List ℕ) → Grew start old → HandsOn {T = Next} (Err halt) old new before now → Leads first rest start (reached old before)
    → Steps {T = ℕ} style first None (Err (stops.Halted halt)) start (reached new now)
gathered_halts style first rest halts.WriteFault start old new before now g h p =
    let cut = steps_cut {T = Unit {0}} ℕ style first rest None (Ok tt) start old new before g h.some p in
    steps_over {T = ℕ} style first None (Err (stops.Halted halts.WriteFault)) start new start (reached new now) (λ text a. subst (λ l. Appends start (reached new l) text) (sym (h.none refl)) (empty_reached start new text a)) cut
gathered_halts style first rest halts.ReadFault start old new before now g h p =
    halts_on ℕ style first rest None halts.ReadFault start (reached new now) (gathered_goes first rest start (reached old before) (reached new now) p (h.all (λ e. cc)))
gathered_halts style first rest halts.OutOfMemory start old new before now g h p =
    halts_on ℕ style first rest None halts.OutOfMemory start (reached new now) (gathered_goes first rest start (reached old before) (reached new now) p (h.all (λ e. cc)))
