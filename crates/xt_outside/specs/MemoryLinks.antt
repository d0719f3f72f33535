-- What the links in memory hold (this profile's own).
use Rattle.std.specs.Prelude.{ℕ, List, take, drop, Some}
use Rattle.xt_outside.specs.Links.{Held, Heard, is_nothing, IsNewLink}
use Rattle.xt_outside.specs.declared.memory_links.SureLink.{SureLink}
use Rattle.xt_outside.specs.declared.memory_links.Script.{Script}
use Rattle.xt_outside.specs.declared.memory_links.MemLink.{MemLink}

abbrev pub sure_octets : SureLink → List ℕ
sure_octets link = link.octets.now

abbrev pub sure_at : SureLink → ℕ
sure_at link = link.at

-- what it is made of
abbrev pub link_script : MemLink → Script
link_script link = link.script

-- what it took
abbrev pub link_text : MemLink → List ℕ
link_text link = link.text

abbrev pub link_faults : MemLink → ℕ
link_faults link = link.tally.faults

-- a link that has got and taken nothing, and has not failed
abbrev pub IsFreshLink : MemLink → Type 0
IsFreshLink link = IsNewLink (Some (take link.at link.script.input)) (Some link.text) link.tally.faults

-- what a door holds of a link
abbrev pub entry_of : MemLink → Held
entry_of link = record { got = take link.at link.script.input; taken = link.text; faults = link.tally.faults; ended = is_nothing (drop link.at link.script.input) }

-- what a net has heard over a link
abbrev pub heard_over : MemLink → Heard
heard_over link = record { got = take link.at link.script.input; taken = link.text; ended = is_nothing (drop link.at link.script.input) }
