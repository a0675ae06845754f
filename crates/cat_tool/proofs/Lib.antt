mod Complete
