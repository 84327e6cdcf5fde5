-- The counts, in the words of the definitions.
use Rattle.survey.specs.declared.Figures.{Figures}
use Rattle.survey.specs.Rows.{Census}

-- the six counts
abbrev pub figures_of : Figures → Census
figures_of c = record {
  candidates = c.candidates;
  breaking16 = c.breaking16;
  breaking17only = c.breaking17only;
  apartonly = c.apartonly;
  secure = c.secure;
  options = c.options;
}
