-- Document 01's number and values for each case of the answers that the code gives. Every promise about an answer goes through these. Assumes nothing.
use Rattle.std.specs.Prelude.{ℕ, Bool, true, false, Result, Ok, Err}
use Rattle.trace.specs.declared.Refusal.{Refusal}
use Rattle.trace.specs.declared.Verdict as code
use Rattle.trace.specs.declared.Verdict.TheVariants.{Clean, Race}
use Rattle.trace.specs.Outcome.{Reply, says, refused, Verdict, clean, race}
use Rattle.trace.specs.Slices.{Slices, Translated}

-- What a call says, or refused number position.
unfoldable pub reply : {A : Type 0} → Result A Refusal → Reply A
reply (Ok answer) = says answer
reply (Err r) = refused r.number r.position

-- The judge: clean, race s t, or refused number position.
unfoldable pub judge_reply : Result code.Verdict Refusal → Reply Verdict
judge_reply (Ok (Clean links)) = says clean
judge_reply (Ok (Race s t links)) = says (race s t)
judge_reply (Err r) = refused r.number r.position

-- The number of links beside it: "with a refusal, 0".
unfoldable pub judge_links : Result code.Verdict Refusal → ℕ
judge_links (Ok (Clean links)) = links
judge_links (Ok (Race s t links)) = links
judge_links (Err r) = 0

-- The ordering call: yes, no, or refused number position.
unfoldable pub ordering_reply : Result Bool Refusal → Reply Bool
ordering_reply (Ok true) = says true
ordering_reply (Ok false) = says false
ordering_reply (Err r) = refused r.number r.position

-- The answer of a call that writes a trace, the number of its events or refused number position, with the slices that it leaves.
abbrev pub translated_of : Result ℕ Refusal → Slices → Translated
translated_of r b = record { answer = reply r; slices = b }
