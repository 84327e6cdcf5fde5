-- The answers of Census and Draw: the scope's number and values for every case.
use Rattle.std.specs.Prelude as std
use Rattle.std.proofs.Math.Option.{Option}
use Rattle.refusals.specs.declared.Refusal.{Refusal}
use Rattle.refusals.specs.Refusals.{answered}
use Rattle.sequences.specs.Options.{given}
use Rattle.sequences.specs.Results.{Result}
use Rattle.survey.specs.declared.Figures.{Figures}
use Rattle.survey.specs.declared.Row.{Row}
use Rattle.survey.specs.Answers.{figures_of}
use Rattle.survey.specs.Rows.{Census}

-- Census: the six counts, or a refusal with its number and place
abbrev pub census_answer : std.Result Figures Refusal → Result Census
census_answer r = answered figures_of r

-- Draw: a row, none if the list is finished, or a refusal with its number and place
abbrev pub draw_answer : std.Result (std.Option Row) Refusal → Result (Option Row)
draw_answer r = answered given r
