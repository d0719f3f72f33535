-- The worked fetch as a conversation with a session: what the law asks for can be had.
use Rattle.std.proofs.Common.{◌≡◌, ℕ, zero, suc, List, [], ◌∷◌, refl, sym, subst, lit<, lit≤, arith}
use Rattle.std.specs.Prelude.{None, Some, Ok, slice_get}
use Rattle.std.proofs.lemmas.List.Elements.{All-nil, All-cons}
use Rattle.type_trees.specs.declared.types.Name.TheVariants.{Hashed}
use Rattle.object_formats.specs.Objects as o
use Rattle.object_formats.specs.Rows.{one_member}
use Rattle.type_object.specs.Names.{hash_of}
use Rattle.type_lookup.specs.declared.messages.messages.Fetched.{Fetched}
use Rattle.type_lookup.specs.declared.messages.messages.Message.{Message}
use Rattle.type_lookup.specs.declared.messages.messages.Message.TheVariants.{GetTypes, Types}
use Rattle.type_lookup.specs.messages.Fields.{payload}
use Rattle.type_lookup.specs.messages.Spelling.{HasFrame, IsFetched, payload_of}
use Rattle.type_lookup.specs.Frames.{front}
use Rattle.type_lookup.specs.Sequences.{frames_of, AreFrames}
use Rattle.type_registry.specs.Held.{Held, held, IsNamed}
use Rattle.type_registry.specs.Found.{IsShown}
use Rattle.type_registry.specs.Passed.{Grows, IsFindingOf, IsFullOf, IsPass}
use Rattle.lookup_fetch.specs.Fetches.{Fetches}
use Rattle.lookup_service.specs.declared.ended.Ended.TheVariants as endings
use Rattle.lookup_service.specs.States.{IsStep}
use Rattle.lookup_service.specs.Sessions.{IsRequest, Session}
use Rattle.type_mirror.specs.completes.Peers.{Conversation}
use Rattle.type_mirror.specs.completes.Worked.{computed, inner, outer, found_of, pass, replies, inner_named, outer_named}

unfoldable spelled : ℕ
unfolding front payload payload_of
spelled = 0

-- ---- the pass is sound

inner_is : IsNamed hash_of (held inner.id inner.octets)
unfolding computed
inner_is = (record { object = one_member; read = refl }, sym inner_named)

outer_is : IsNamed hash_of (held outer.id outer.octets)
unfolding computed
outer_is = (record { object = o.structure None 1 o.none (record { id = 0; flags = 1; ty = o.hash inner.id; name = Hashed 1 } ∷ []); read = refl }, sym outer_named)

shown_alone : (x h : Held) (i : ℕ) → IsNamed hash_of x → slice_get (x ∷ []) i ≡ Some h → IsShown hash_of x.id i h
shown_alone x h zero is e = subst (IsShown hash_of x.id 0) (let same : x ≡ h = cc e in same) (is, (0, lit< tt, refl))
shown_alone x h (suc i) is e = absurd (cc e)

finding_of : (object : Fetched) → IsNamed hash_of (held object.id object.octets) → IsFindingOf hash_of [] (object.id, found_of object)
finding_of object is = record {
  registry_is = refl;
  id_is = refl;
  is_finding = record { within = lit< tt; shown = λ i h e. shown_alone (held object.id object.octets) h i is e; strangers = λ i h e. absurd (cc e) };
}

sound : IsPass hash_of pass
sound = record {
  findings = All-cons (IsFindingOf hash_of []) (inner.id, found_of inner) ((outer.id, found_of outer) ∷ []) (finding_of inner inner_is)
      (All-cons (IsFindingOf hash_of []) (outer.id, found_of outer) [] (finding_of outer outer_is) (All-nil (IsFindingOf hash_of [])));
  trails = All-nil (IsFullOf hash_of []);
}

-- ---- what was sent and what came

abbrev requests : List Message
requests = GetTypes 1 (outer.id ∷ []) ∷ GetTypes 2 (inner.id ∷ []) ∷ []

requests_framed : AreFrames (frames_of requests) requests
unfolding spelled
requests_framed = (frames_of (GetTypes 2 (inner.id ∷ []) ∷ []), refl, ([], refl, refl))

replies_framed : AreFrames (frames_of replies) replies
unfolding spelled
replies_framed = (frames_of (Types 2 (inner ∷ []) ∷ []), refl, ([], refl, refl))

fetched : Fetches (outer.id ∷ []) 1 [] (frames_of replies) (frames_of requests) (Some []) (Ok (outer ∷ inner ∷ []))
unfolding computed payload_of
fetched = record {
  messages = replies;
  ahead = frames_of replies;
  behind = [];
  cut = refl;
  read = replies_framed;
  none_more = lit≤ tt;
  answers = record { whole = refl; end_is = refl; none = refl };
  closed = refl;
}

stays : Grows pass pass
stays = record { registry = refl; known = λ id x e. e; fulls = λ id x e. e }

first_frame : HasFrame (Types 1 (outer ∷ []))
unfolding spelled
first_frame = record { limits = record { count = lit≤ tt; each = All-cons IsFetched outer [] (refl, lit≤ tt) (All-nil IsFetched) }; fits = lit≤ tt }

second_frame : HasFrame (Types 2 (inner ∷ []))
unfolding spelled
second_frame = record { limits = record { count = lit≤ tt; each = All-cons IsFetched inner [] (refl, lit≤ tt) (All-nil IsFetched) }; fits = lit≤ tt }

first_step : IsStep hash_of pass pass (GetTypes 1 (outer.id ∷ [])) (Types 1 (outer ∷ []))
unfolding computed
first_step = record { grows = stays; sound = sound; replies = refl; frame = first_frame }

second_step : IsStep hash_of pass pass (GetTypes 2 (inner.id ∷ [])) (Types 2 (inner ∷ []))
unfolding computed
second_step = record { grows = stays; sound = sound; replies = refl; frame = second_frame }

session : Session hash_of pass pass (frames_of requests) (frames_of replies) (Some []) endings.Closed
unfolding payload_of
session = record {
  requests = requests;
  replies = replies;
  last = pass;
  ahead = frames_of requests;
  behind = [];
  cut = refl;
  read = record { frames = requests_framed; each = All-cons IsRequest (GetTypes 1 (outer.id ∷ [])) (GetTypes 2 (inner.id ∷ []) ∷ []) refl (All-cons IsRequest (GetTypes 2 (inner.id ∷ [])) [] refl (All-nil IsRequest)) };
  replied = (pass, first_step, (pass, second_step, refl));
  later = stays;
  ends = (lit< tt, refl, refl);
  sends = refl;
}

-- ---- the conversation

pub conversation : Conversation pass (outer.id ∷ []) (Ok (outer ∷ inner ∷ []))
unfolding payload_of
conversation = record {
  asked = frames_of requests;
  read = frames_of replies;
  rest = [];
  left_before = Some (frames_of replies);
  left_now = Some [];
  fetch = record { octets = frames_of replies; sent = frames_of requests; passed = record { took = (refl, refl); gave = refl }; fetches = fetched };
  all_read = λ end. refl;
  faults_before = 0;
  faults_now = 0;
  cause = record { later = lit≤ tt; failed = λ e. absurd (cc e) };
  steady = λ e. absurd (omega (arith, e));
  exit = pass;
  peer_before = Some (frames_of requests);
  peer_now = Some [];
  ended = endings.Closed;
  session = record { octets = frames_of requests; sent = frames_of replies; took = (refl, refl); gave = refl; session = session };
  unbroken = tt;
}
