mod WorkedRuns
