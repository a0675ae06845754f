-- The faults of lines that are no commands.
use Rattle.cat_inputs.specs.declared.fault.InputFault.{InputFault}
use Rattle.cat_inputs.specs.declared.fault.InputFault.TheVariants as input
use Rattle.cat_query.specs.declared.fault.QueryFault.{QueryFault}
use Rattle.cat_query.specs.declared.fault.QueryFault.TheVariants as query
use Rattle.cat_session_lines.specs.declared.fault.LineFault.{LineFault}
use Rattle.cat_session_lines.specs.declared.fault.LineFault.TheVariants.{Input, Query, NoMemory}

-- the fault of a line whose body isn't what its command takes
abbrev pub input_fault : InputFault → LineFault
input_fault (input.Json fault) = Input (input.Json fault)
input_fault (input.Shape place) = Input (input.Shape place)
input_fault input.TooMany = Input input.TooMany
input_fault (input.Deep i) = Input (input.Deep i)
input_fault (input.NoRef i fault) = Input (input.NoRef i fault)
input_fault (input.Duplicate i) = Input (input.Duplicate i)
input_fault input.NoMemory = NoMemory

-- the fault of a line whose query text is no query
abbrev pub query_fault : QueryFault → LineFault
query_fault (query.Filter i j) = Query (query.Filter i j)
query_fault query.BadOrder = Query query.BadOrder
query_fault query.BadLimit = Query query.BadLimit
query_fault query.BadCursor = Query query.BadCursor
query_fault query.NoMemory = NoMemory
